-- Which pages of a table are known to have all their slots taken.
use Rattle.std.specs.Prelude.{◌≡◌, ℕ, ◌+◌, ◌-◌, ◌/◌, ◌%◌, ◌≤◌, ◌<◌, List, Option, Some, None, length, slice_index_or}
use Rattle.table_space.specs.declared.rooms.Rooms.{Rooms}
use Rattle.table_space.specs.Fronts.{AreTaken}
use Rattle.table_space.specs.PageMarks.{marks_in, narrow_of, taken_in}
use Rattle.table_space.specs.Seen.{Entries, AreBlocked}

-- how many slots of a page, from 1 on, are known to be taken if the page is the table's
abbrev pub known_taken : Rooms → ℕ → ℕ → ℕ
known_taken rooms table page = taken_in (marks_in rooms.marks (table / 64)) (table % 64) (page - 1) (narrow_of rooms.narrow table)

-- that many are known of the pages from one up to below another
abbrev pub AreKnown : Rooms → ℕ → ℕ → ℕ → ℕ → Type 0
AreKnown rooms table slots from to = (p : ℕ) → from ≤ p → p < to → slots ≤ known_taken rooms table p

-- a page before which, from one on, that many are known of all pages
pub record IsNextRoom (rooms : Rooms) (table slots from page : ℕ) : Type 0 where
  pub low : from ≤ page
  pub high : page ≤ rooms.pages
  pub before : AreKnown rooms table slots from page

-- what is known of the pages of tables is so
abbrev pub AreRooms : Entries → List (Option ℕ) → Rooms → Type 0
AreRooms entries os rooms = (p t : ℕ) → 1 ≤ p → p ≤ length os → slice_index_or os (p - 1) None ≡ Some t → AreTaken entries p (known_taken rooms t p)

-- no more is known of such pages than before
abbrev pub AreNoMore : List (Option ℕ) → Rooms → Rooms → Type 0
AreNoMore os was now = (p t : ℕ) → 1 ≤ p → p ≤ length os → slice_index_or os (p - 1) None ≡ Some t → known_taken now t p ≤ known_taken was t p

-- no slot, of so many, of the table's pages from one up to below another is vacant for a transaction
abbrev pub AreFull : Entries → List (Option ℕ) → ℕ → ℕ → ℕ → ℕ → ℕ → Type 0
AreFull entries os table slots tx from to = (p : ℕ) → from ≤ p → p < to → 1 ≤ p → p ≤ length os → slice_index_or os (p - 1) None ≡ Some table → AreBlocked entries p (slots + 1) tx

-- a page before which, from one on, that is so of the table's pages
pub record IsNextPage (entries : Entries) (os : List (Option ℕ)) (table slots tx from page : ℕ) : Type 0 where
  pub low : from ≤ page
  pub high : page ≤ length os
  pub before : AreFull entries os table slots tx from page
