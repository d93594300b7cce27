use Rattle.std.proofs.Common.{length, ◌-◌, ◌≡◌, ◌≤◌, take, true}
use Rattle.sql_reader.specs.Tokens.{begins, value}
use Rattle.sql_reader.specs.declared.token.Kind.TheVariants.{Number}
use Rattle.sql_reader.proofs.reach.number_reach.Given as goal

abbrev pub decreases-loop-at : goal.decreases-loop-at
decreases-loop-at l = length l.rest - l.at

abbrev pub invariant-loop-at : goal.invariant-loop-at
invariant-loop-at l = (l.at ≤ length l.rest) × (begins Number (take l.at l.rest) ≡ true) × (l.number ≡ value 0 (take l.at l.rest)) × (l.number ≤ 2147483647)
