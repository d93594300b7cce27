use Rattle.std.proofs.Common.{length, ◌-◌, ◌≡◌, ◌<◌, ◌≤◌, take, true}
use Rattle.sql_reader.specs.Tokens.{begins}
use Rattle.sql_reader.specs.declared.token.Kind.TheVariants.{Name}
use Rattle.sql_reader.proofs.reach.name_reach.Given as goal

abbrev pub decreases-loop-at : goal.decreases-loop-at
decreases-loop-at l = length l.rest - l.at

abbrev pub invariant-loop-at : goal.invariant-loop-at
invariant-loop-at l = (l.at ≤ length l.rest) × (0 < l.at) × (l.at ≤ 18) × (begins Name (take l.at l.rest) ≡ true)
