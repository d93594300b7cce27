use Rattle.std.proofs.Common.{◌≡◌, take}
use Rattle.std.specs.Int.{bit_at}
use Rattle.table_space.proofs.Marking.{HaveMarks}
use Rattle.table_space.proofs.entries.marks_of.Given as goal

abbrev pub invariant-loop-entry : goal.invariant-loop-entry
invariant-loop-entry l = HaveMarks (take l.entry-index l.entries) l.marks × (bit_at l.marks 63 ≡ 0)
