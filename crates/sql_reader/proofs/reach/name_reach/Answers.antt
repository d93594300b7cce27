use Rattle.std.proofs.Common.{arith}
use Rattle.sql_reader.proofs.Steps.{name_reached}
use Rattle.sql_reader.proofs.reach.name_reach.Goals as goal

pub returns-else-at-lt18 : goal.returns-else-at-lt18
returns-else-at-lt18 c = name_reached _ _ c.loop-at.invariant.0 c.loop-at.invariant.1 c.loop-at.invariant.3 (λ i. grind (arith, c.if-at-lt18.false))
