use Rattle.std.proofs.Common.{length, ◌-◌, ◌≡◌, ◌≤◌, true}
use Rattle.sql_reader.specs.Tokens.{is_quote, is_live}
use Rattle.sql_reader.proofs.Steps.{Scanned}
use Rattle.sql_reader.proofs.reach.text_reach.Given as goal

abbrev pub decreases-loop-at : goal.decreases-loop-at
decreases-loop-at l = length l.rest - l.at

abbrev pub invariant-loop-at : goal.invariant-loop-at
invariant-loop-at l = (l.at ≤ length l.rest) × (is_quote l.sign ≡ true) × Scanned l.rest l.at l.sign l.state × (is_live l.state ≡ true)
