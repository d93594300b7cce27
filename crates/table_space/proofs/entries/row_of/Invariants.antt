use Rattle.std.proofs.Common.{◌≡◌, drop}
use Rattle.table_space.specs.Noted.{row_of}
use Rattle.table_space.proofs.entries.row_of.Given as goal

-- the entries that are left have the row id
abbrev pub invariant-loop-entry : goal.invariant-loop-entry
invariant-loop-entry l = row_of (drop l.entry-index l.entries) ≡ row_of l.entries
