use Rattle.std.proofs.Common.{arith}
use Rattle.sql_reader.proofs.Meanings.{NumberNext, number_next}
use Rattle.sql_reader.proofs.convert.number_of.Goals as goal

pub overflow_mul-number : goal.overflow_mul-number
overflow_mul-number c = let n : NumberNext c.args.token.now c.loop-byte.byte-index c.loop-byte.number = number_next _ _ _ c.requires c.loop-byte-test.true c.loop-byte.invariant.0 in omega (arith, n.fits)

pub overflow_add-number : goal.overflow_add-number
overflow_add-number c = let n : NumberNext c.args.token.now c.loop-byte.byte-index c.loop-byte.number = number_next _ _ _ c.requires c.loop-byte-test.true c.loop-byte.invariant.0 in omega (arith, n.fits)

pub loop-byte-preserved : goal.loop-byte-preserved
loop-byte-preserved c = let n : NumberNext c.args.token.now c.loop-byte.byte-index c.loop-byte.number = number_next _ _ _ c.requires c.loop-byte-test.true c.loop-byte.invariant.0 in (n.more, n.fits)
