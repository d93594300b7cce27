use Rattle.std.proofs.Common.{ℕ, ◌≤◌, ◌<◌}
use Rattle.ids_base.specs.RowIds.{row_number}
use Rattle.table_space.specs.Directory.{entries_at}
use Rattle.table_space.specs.Reserves.{IsTold}
use Rattle.table_space.proofs.directory.Directory.reserved_in.Given as goal

-- the slots so far
abbrev pub invariant-loop-slot : goal.invariant-loop-slot
invariant-loop-slot l = (slot tx : ℕ) → 1 ≤ slot → slot < l.slot → IsTold (entries_at l.self) l.marks l.owner (row_number l.page slot) tx
