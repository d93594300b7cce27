use Rattle.std.proofs.Common.{◌≤◌, ◌-◌}
use Rattle.table_space.specs.Marks.{IsPower}
use Rattle.table_space.proofs.marks.power_from.Given as goal

abbrev pub invariant-loop-width : goal.invariant-loop-width
invariant-loop-width l = IsPower l.width × (1 ≤ l.width) × (l.width ≤ 2147483648)

abbrev pub decreases-loop-width : goal.decreases-loop-width
decreases-loop-width l = l.least - l.width
