use Rattle.std.proofs.Common.{◌-◌, ◌≤◌}
use Rattle.table_space.specs.Directory.{entries_at}
use Rattle.table_space.specs.Reserves.{AreKept}
use Rattle.table_space.proofs.directory.Directory.kept_to.Given as goal

abbrev pub invariant-loop-last : goal.invariant-loop-last
invariant-loop-last l = record { kept : AreKept (entries_at l.self) l.page l.last l.tx; within : l.last ≤ l.used }

abbrev pub decreases-loop-last : goal.decreases-loop-last
decreases-loop-last l = 256 - l.last
