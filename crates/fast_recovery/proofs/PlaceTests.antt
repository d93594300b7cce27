-- What the tests of a record's place tell.
use Rattle.std.proofs.Common.{◌≡◌, ℕ, ◌≤◌, ◌<◌, ◌%◌, ◌==◌, Bool, true, false, ◌&&◌, ◌||◌, length, Option, Some, None, ◌⊎◌, inl, inr, refl}
use Rattle.std.specs.Prelude.{nat_le}
use Rattle.std.proofs.lemmas.Bool.{eqb-true, leb-true}
use Rattle.std.proofs.lemmas.List.Elements.{All-from_get_or}
use Rattle.ids_base.specs.RowIds.{page_of, slot_count}
use Rattle.log_records.specs.Spelling.{IsRow}
use Rattle.log_records.proofs.Numbers.{both_true}
use Rattle.ids_model.specs.Slots.{Bytes, Own, own_at}
use Rattle.fast_recovery.specs.InPlace.{is_there, is_table_number, is_page_of, may_be_page_of, may_be}
use Rattle.fast_recovery.specs.Paged.{IsPagedRow}

-- the page and the slot are there
pub record IsThere (pages row size : ℕ) : Type 0 where
  pub first : 1 ≤ page_of row
  pub last : page_of row ≤ pages
  pub low : 1 ≤ row % 256
  pub high : row % 256 ≤ slot_count size

pub there-is : (pages row size : ℕ) → is_there pages row size ≡ true → IsThere pages row size
there-is pages row size is =
    let halves = both_true (nat_le 1 (page_of row) && nat_le (page_of row) pages) (nat_le 1 (row % 256) && nat_le (row % 256) (slot_count size)) is in
    let page = both_true (nat_le 1 (page_of row)) (nat_le (page_of row) pages) halves.0 in
    let slot = both_true (nat_le 1 (row % 256)) (nat_le (row % 256) (slot_count size)) halves.1 in
    record {
      first = leb-true 1 (page_of row) page.0;
      last = leb-true (page_of row) pages page.1;
      low = leb-true 1 (row % 256) slot.0;
      high = leb-true (row % 256) (slot_count size) slot.1;
    }

-- the number of a table
pub number-is : (table : ℕ) → is_table_number table ≡ true → (table ≡ 1) ⊎ (100 ≤ table)
number-is table is = at (table == 1) refl is
  where
    at : (b : Bool) → (table == 1) ≡ b → (b || nat_le 100 table) ≡ true → (table ≡ 1) ⊎ (100 ≤ table)
    at true same h = inl (eqb-true table 1 same)
    at false same h = inr (leb-true 100 table h)

-- the owner of a page
owner-is : (o : Option (ℕ × ℕ)) (table size : ℕ) → is_page_of o table size ≡ true → o ≡ Some (table, size)
owner-is None table size is = cc
owner-is (Some w) table size is =
    let was = both_true (w.0 == table) (w.1 == size) is in
    let number = eqb-true w.0 table was.0 in
    let long = eqb-true w.1 size was.1 in
    λ i. Some (number i, long i)

-- or it has none
pub free-is : (o : Option (ℕ × ℕ)) (table size : ℕ) → may_be_page_of o table size ≡ true → (o ≡ None) ⊎ (o ≡ Some (table, size))
free-is None table size is = inl refl
free-is (Some w) table size is = inr (owner-is (Some w) table size is)

-- a row that may be in a slot, and has bytes
pub row-is : (pages : ℕ) (own : Own) (table row : ℕ) (bytes : Bytes) → may_be pages own table row (length bytes) ≡ true → IsRow bytes → IsPagedRow own row bytes
row-is pages own table row bytes may is =
    let was = both_true (is_there pages row (length bytes)) (is_page_of (own_at own (page_of row)) table (length bytes)) may in
    let there = there-is pages row (length bytes) was.0 in
    record {
      owner = (table, length bytes);
      owned = owner-is (own_at own (page_of row)) table (length bytes) was.1;
      low = there.low;
      high = there.high;
      sized = refl;
      bytes = All-from_get_or (λ b. b < 256) bytes 0 (λ i below. is.fits i);
    }
