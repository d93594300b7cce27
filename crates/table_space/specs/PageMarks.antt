-- Marks on pages, and how many slots are kept for each table.
use Rattle.std.specs.Prelude.{◌≡◌, ℕ, ◌+◌, ◌*◌, ◌%◌, ◌≤◌, List, Option, Some, None, length, slice_index, cond, ◌==◌}
use Rattle.std.specs.Int.{bit_at}
use Rattle.std.specs.Ordering.{nat_cmp}
use Rattle.std.specs.BTreeMap as tree
use Rattle.std.specs.BTreeMap.{BTreeMap}

-- how many slots are kept for a table, 255 where none are
abbrev pub narrow_in : Option ℕ → ℕ
narrow_in None = 255
narrow_in (Some n) = n

abbrev pub narrow_of : BTreeMap ℕ ℕ → ℕ → ℕ
narrow_of narrow t = narrow_in (tree.get nat_cmp narrow t)

-- the marks of a group of tables, if there are any
abbrev pub marks_in : BTreeMap ℕ (List ℕ) → ℕ → Option (List ℕ)
marks_in groups g = tree.get nat_cmp groups g

-- how many are known to be taken: none on a page with the mark, or where there are no marks
abbrev pub taken_in : Option (List ℕ) → ℕ → ℕ → ℕ → ℕ
taken_in None mark place narrow = 0
taken_in (Some marks) mark place narrow = cond (bit_at (slice_index marks place) mark == 1) 0 narrow

-- marks on so many pages, and on nothing behind them
pub record AreOnPages (pages : ℕ) (marks : List ℕ) : Type 0 where
  pub room : pages ≤ length marks
  pub beyond : (n : ℕ) → pages ≤ n → slice_index marks n ≡ 0

-- and those of each group of tables
abbrev pub AreMarks : ℕ → BTreeMap ℕ (List ℕ) → Type 0
AreMarks pages groups = (g : ℕ) (marks : List ℕ) → marks_in groups g ≡ Some marks → AreOnPages pages marks

-- the marks of a transaction, and of a transaction on the pages of a table
abbrev pub tx_mark : ℕ → ℕ
tx_mark tx = tx % 63

abbrev pub place_mark : ℕ → ℕ → ℕ
place_mark table tx = (table * 8 + tx % 64) % 64
