use Rattle.std.proofs.Common.{arith, ◌∙◌, length-set}
use Rattle.sql_reader.proofs.Form.{true_false}
use Rattle.sql_reader.proofs.Meanings.{name_more, name_read, name_short}
use Rattle.sql_reader.proofs.convert.name_of.Goals as goal

pub loop-i-preserved : goal.loop-i-preserved
loop-i-preserved c = (length-set c.loop-i.text c.loop-i.i c.small.result ∙ c.loop-i.invariant.0, name_more c.args.token.now c.loop-i.text c.loop-i.i c.small.result (omega (arith, c.loop-i-test.true, c.loop-i.invariant.0, name_short c.args.token.now c.requires)) c.loop-i-test.true c.small.ensures c.loop-i.invariant.1)

pub unreachable-requires : goal.unreachable-requires
unreachable-requires c = true_false (name_read c.args.token.now c.loop-i.text c.loop-i.i c.loop-i-test.false c.loop-i.auto.i-end c.requires c.loop-i.invariant.1) c.in-None.ensures
