use Rattle.std.proofs.Common.{◌-◌}
use Rattle.table_space.specs.Directory.{entries_at}
use Rattle.table_space.specs.Fronts.{AreTaken}
use Rattle.table_space.proofs.directory.Directory.taken_to.Given as goal

abbrev pub invariant-loop-last : goal.invariant-loop-last
invariant-loop-last l = AreTaken (entries_at l.self) l.row.page l.last

abbrev pub decreases-loop-last : goal.decreases-loop-last
decreases-loop-last l = 256 - l.last
