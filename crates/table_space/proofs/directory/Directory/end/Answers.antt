use Rattle.std.proofs.Common.{arith}
use Rattle.table_space.proofs.Ending.{passed, ended-more, ended-all, ending-none}
use Rattle.table_space.proofs.directory.Directory.end.Goals as goal

pub loop-number-init : goal.loop-number-init
loop-number-init c = ending-none c.args.self.now c.args.tx

pub loop-number-preserved : goal.loop-number-preserved
loop-number-preserved c =
    ended-more c.args.self.now c.loop-number.self c.end_under.new.self c.args.tx c.in-Some.number
    (passed c.args.self.now c.loop-number.self c.args.tx c.loop-number.from c.in-Some.number c.in-Some.ensures.found.low c.loop-number.self.indexed c.loop-number.invariant
    (λ n low lt. rw (← c.mark_of.ensures) (c.in-Some.ensures.found.before n low lt)))
    c.end_under.ensures

pub loop-number-smaller : goal.loop-number-smaller
loop-number-smaller c = omega (arith, c.end_under.ensures.room, c.in-Some.ensures.found.low, c.in-Some.ensures.found.high)

pub returns : goal.returns
returns c = ended-all c.args.self.now c.loop-number.self c.args.tx c.loop-number.from c.loop-number.self.indexed c.loop-number.invariant (λ n low lt. rw (← c.mark_of.ensures) (c.in_default.ensures.found n low lt))
