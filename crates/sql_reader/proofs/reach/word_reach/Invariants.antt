use Rattle.std.proofs.Common.{length, ◌-◌, ◌≡◌, ◌≤◌, take, true}
use Rattle.sql_reader.specs.Tokens.{letters, begins_word}
use Rattle.sql_reader.proofs.reach.word_reach.Given as goal

abbrev pub decreases-loop-at : goal.decreases-loop-at
decreases-loop-at l = length l.rest - l.at

abbrev pub invariant-loop-at : goal.invariant-loop-at
invariant-loop-at l = (l.at ≤ length l.rest) × (l.at ≤ length l.letters) × (l.letters ≡ letters l.fn.word) × (begins_word l.letters (take l.at l.rest) ≡ true)
