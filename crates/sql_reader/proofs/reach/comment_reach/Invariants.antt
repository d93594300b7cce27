use Rattle.std.proofs.Common.{length, ◌-◌, ◌≡◌, ◌<◌, ◌≤◌, take, true}
use Rattle.sql_reader.specs.Tokens.{begins}
use Rattle.sql_reader.specs.declared.token.Kind.TheVariants.{Comment}
use Rattle.sql_reader.proofs.reach.comment_reach.Given as goal

abbrev pub decreases-loop-at : goal.decreases-loop-at
decreases-loop-at l = length l.rest - l.at

abbrev pub invariant-loop-at : goal.invariant-loop-at
invariant-loop-at l = (l.at ≤ length l.rest) × (1 < l.at) × (begins Comment (take l.at l.rest) ≡ true)
