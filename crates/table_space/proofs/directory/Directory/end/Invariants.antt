use Rattle.std.proofs.Common.{◌-◌, length}
use Rattle.table_space.proofs.Ending.{IsEnding}
use Rattle.table_space.proofs.directory.Directory.end.Given as goal

-- the entries under the numbers so far have ended, and the others are as they were
abbrev pub invariant-loop-number : goal.invariant-loop-number
invariant-loop-number l = IsEnding l.fn.self l.self l.tx l.from

abbrev pub decreases-loop-number : goal.decreases-loop-number
decreases-loop-number l = length l.self.marks - l.from
