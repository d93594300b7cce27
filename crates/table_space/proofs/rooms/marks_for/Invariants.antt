use Rattle.std.proofs.Common.{◌≡◌, ◌≤◌, ◌<◌, ◌-◌, ◌/◌, ◌%◌, ℕ, Some, length, slice_index}
use Rattle.std.specs.Int.{bit_at}
use Rattle.table_space.specs.Owners.{owner_in}
use Rattle.table_space.specs.PageMarks.{AreOnPages}
use Rattle.table_space.proofs.rooms.marks_for.Given as goal

-- the pages so far have the marks of the group's tables that own them, and nothing is marked behind the pages
abbrev pub invariant-loop-page : goal.invariant-loop-page
invariant-loop-page l = record {
  pages : AreOnPages (length l.owners) l.marks;
  owned : (p t : ℕ) → 1 ≤ p → p < l.page → owner_in l.owners p ≡ Some t → t / 64 ≡ l.group → bit_at (slice_index l.marks (p - 1)) (t % 64) ≡ 1;
}
