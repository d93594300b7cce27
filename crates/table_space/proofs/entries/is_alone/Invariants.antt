use Rattle.std.proofs.Common.{◌≡◌, drop}
use Rattle.table_space.specs.Noted.{is_alone, is_alone_from}
use Rattle.table_space.proofs.entries.is_alone.Given as goal

-- whether no other is filled is told by the entries that are left
abbrev pub invariant-loop-entry : goal.invariant-loop-entry
invariant-loop-entry l = is_alone_from l.met l.row (drop l.entry-index l.entries) ≡ is_alone l.row l.entries
