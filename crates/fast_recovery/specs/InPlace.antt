-- Whether a record of the log stands where it may: its page and its slot are there, and its table may have the page.
use Rattle.std.specs.Prelude.{ℕ, ◌==◌, ◌%◌, Bool, true, false, ◌&&◌, ◌||◌, nat_le, is_some, List, [], ◌∷◌, length, Option, Some, None}
use Rattle.ids_base.specs.RowIds.{page_of, slot_count}
use Rattle.log_records.specs.Entries.{Entry, Begin, Commit, Rollback, HInsert, HDelete, HUpdate, Ckpoint}
use Rattle.ids_model.specs.Slots.{Own, own_at, own_all}
use Rattle.ids_model.specs.Recovered.{owns}
use Rattle.fast_recovery.specs.Order.{open_by}
use Rattle.fast_recovery.specs.Rising.{rises}

-- the page of a row id is one of the pages 1 to `pages`, and its slot is there in a page whose rows have so many bytes
abbrev pub is_there : ℕ → ℕ → ℕ → Bool
is_there pages row size = (nat_le 1 (page_of row) && nat_le (page_of row) pages) && (nat_le 1 (row % 256) && nat_le (row % 256) (slot_count size))

-- the catalogue has number 1, and the numbers of the other tables begin with 100
abbrev pub is_table_number : ℕ → Bool
is_table_number table = (table == 1) || nat_le 100 table

-- a page, with its owner, is one of this table with rows of this length
abbrev pub is_page_of : Option (ℕ × ℕ) → ℕ → ℕ → Bool
is_page_of None table size = false
is_page_of (Some owner) table size = (owner.0 == table) && (owner.1 == size)

-- or it has no owner
abbrev pub may_be_page_of : Option (ℕ × ℕ) → ℕ → ℕ → Bool
may_be_page_of None table size = true
may_be_page_of (Some owner) table size = is_page_of (Some owner) table size

-- a row of a table, of this length, may be put into a slot
abbrev pub may_put : ℕ → Own → ℕ → ℕ → ℕ → Bool
may_put pages own table row size = (is_table_number table && is_there pages row size) && may_be_page_of (own_at own (page_of row)) table size

-- or be there
abbrev pub may_be : ℕ → Own → ℕ → ℕ → ℕ → Bool
may_be pages own table row size = is_there pages row size && is_page_of (own_at own (page_of row)) table size

-- a record is in its place among the pages 1 to `pages`, which have these owners before it
abbrev pub in_place : ℕ → Own → Entry → Bool
in_place pages own (Begin tx session) = true
in_place pages own (Commit tx) = true
in_place pages own (Rollback tx) = true
in_place pages own (HInsert tx table row after) = may_put pages own table row (length after)
in_place pages own (HDelete tx table row before) = may_be pages own table row (length before)
in_place pages own (HUpdate tx table row before after) = may_be pages own table row (length before)
in_place pages own (Ckpoint named) = true

-- each of these records is, where the ones before it have given their pages to their tables
abbrev pub all_in_place : ℕ → Own → List Entry → Bool
all_in_place pages own [] = true
all_in_place pages own (e ∷ es) = in_place pages own e && all_in_place pages (own_all own (owns (e ∷ []))) es

-- a record is taken where it is in order and in its place, and rises
abbrev pub is_taken : ℕ → ℕ → Option ℕ → Own → Entry → Bool
is_taken pages last open_before own e = (is_some (open_by open_before e) && in_place pages own e) && rises last e
