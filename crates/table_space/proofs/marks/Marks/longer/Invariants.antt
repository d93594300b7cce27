use Rattle.std.proofs.Common.{◌≡◌, ◌≤◌, ◌<◌, ◌+◌, ℕ, length, slice_index}
use Rattle.table_space.proofs.marks.Marks.longer.Given as goal

-- the places so far are copied, and the others have no marks
abbrev pub invariant-loop-place : goal.invariant-loop-place
invariant-loop-place l = record {
  room : length l.self + 1 ≤ length l.longer;
  copied : (p : ℕ) → p < l.place → slice_index l.longer p ≡ slice_index l.self p;
  rest : (p : ℕ) → l.place ≤ p → slice_index l.longer p ≡ 0;
}
