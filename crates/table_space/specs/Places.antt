-- Where a new row of a table goes.
use Rattle.std.specs.Prelude.{◌≡◌, ℕ, ◌*◌, ◌≤◌, Some}
use Rattle.std.proofs.Common.{◌⊎◌}
use Rattle.std.specs.List.{count_by}
use Rattle.ids_base.specs.RowIds.{row_number, slot_count}
use Rattle.table_space.specs.declared.space.NoSpace.{NoSpace}
use Rattle.table_space.specs.declared.space.TableSpace.{TableSpace}
use Rattle.table_space.specs.Owners.{is_own, IsLeastUnowned, HasNoUnowned}
use Rattle.table_space.specs.Seen.{IsBlocked}
use Rattle.table_space.specs.Space.{entries_of, owners_of, owner_of, pages_of, length_of}

-- a slot of a page of the table, of so many a page, that no entry fills or reserves for another transaction
pub record IsVacant (s : TableSpace) (table slots tx page slot : ℕ) : Type 0 where
  pub first : 1 ≤ page
  pub last : page ≤ pages_of s
  pub owned : owner_of s page ≡ Some table
  pub low : 1 ≤ slot
  pub high : slot ≤ slots
  pub free : ¬ IsBlocked (entries_of s) (row_number page slot) tx

-- there is no such slot
abbrev pub HasNoVacant : TableSpace → ℕ → ℕ → ℕ → Type 0
HasNoVacant s table slots tx = (page slot : ℕ) → ¬ IsVacant s table slots tx page slot

-- the least row id among these slots
pub record IsLeastVacant (s : TableSpace) (table slots tx page slot : ℕ) : Type 0 where
  pub vacant : IsVacant s table slots tx page slot
  pub least : (p q : ℕ) → IsVacant s table slots tx p q → row_number page slot ≤ row_number p q

-- how many slots a page of the table has
abbrev pub slots_of : TableSpace → ℕ → ℕ
slots_of s table = slot_count (length_of s table)

-- slot 1 of the least page without an owner, where the table's pages are full
pub record IsFresh (s : TableSpace) (table tx page slot : ℕ) : Type 0 where
  pub full : HasNoVacant s table (slots_of s table) tx
  pub unowned : IsLeastUnowned (owners_of s) page
  pub slot_is : slot ≡ 1

-- the place for a row of the table
abbrev pub IsPlaceFor : TableSpace → ℕ → ℕ → ℕ → ℕ → Type 0
IsPlaceFor s table tx page slot = IsLeastVacant s table (slots_of s table) tx page slot ⊎ IsFresh s table tx page slot

-- there is none, and the table owns so many slots and pages
pub record HasNoPlace (s : TableSpace) (table tx : ℕ) (told : NoSpace) : Type 0 where
  pub full : HasNoVacant s table (slots_of s table) tx
  pub owned : HasNoUnowned (owners_of s)
  pub pages_are : told.pages ≡ count_by (is_own table) (owners_of s)
  pub rows_are : told.rows ≡ count_by (is_own table) (owners_of s) * slots_of s table
