-- Which pages have slots that are reserved for a transaction and not filled.
use Rattle.std.specs.Prelude.{◌≡◌, ℕ, ◌-◌, ◌≤◌, ◌<◌, true, List, Option, Some, None, length, slice_index, slice_index_or}
use Rattle.std.proofs.Common.{◌⊎◌}
use Rattle.std.specs.List.{list_any}
use Rattle.std.specs.Int.{bit_at}
use Rattle.ids_base.specs.RowIds.{row_number}
use Rattle.ids_base.specs.declared.lock.Key.{Key}
use Rattle.table_space.specs.declared.reserves.Reserved.{Reserved}
use Rattle.table_space.specs.declared.reserves.Reserves.{Reserves}
use Rattle.table_space.specs.Fronts.{IsFilled}
use Rattle.table_space.specs.PageMarks.{tx_mark, place_mark}
use Rattle.table_space.specs.Seen.{Entries}
use Rattle.table_space.specs.Slots.{reserves_for}

-- an empty entry of a transaction reserves the slot
pub record IsReserved (entries : Entries) (row tx : ℕ) : Type 0 where
  pub table : ℕ
  pub key : Key
  pub by : list_any (reserves_for tx row) (entries table key) ≡ true

-- a page with this owner has the marks of a transaction
pub record AreMarked (marks : Reserved) (owner : Option ℕ) (tx : ℕ) : Type 0 where
  pub by_tx : bit_at marks.by_tx (tx_mark tx) ≡ 1
  pub by_place : (table : ℕ) → owner ≡ Some table → bit_at marks.by_place (place_mark table tx) ≡ 1

-- a slot of such a page, if a transaction reserves it, is filled or the marks are there
abbrev pub IsTold : Entries → Reserved → Option ℕ → ℕ → ℕ → Type 0
IsTold entries marks owner row tx = IsReserved entries row tx → IsFilled entries row ⊎ AreMarked marks owner tx

-- and each slot of the page
abbrev pub AreTold : Entries → Reserved → Option ℕ → ℕ → Type 0
AreTold entries marks owner page = (slot tx : ℕ) → 1 ≤ slot → slot < 256 → IsTold entries marks owner (row_number page slot) tx

-- each slot of a page up to one, if a transaction reserves it, is filled
abbrev pub AreKept : Entries → ℕ → ℕ → ℕ → Type 0
AreKept entries page last tx = (slot : ℕ) → 1 ≤ slot → slot ≤ last → slot < 256 → IsReserved entries (row_number page slot) tx → IsFilled entries (row_number page slot)

-- the marks that a page has
abbrev pub reserved_at : Reserves → ℕ → Reserved
reserved_at reserves page = record { by_tx = slice_index reserves.by_tx (page - 1); by_place = slice_index reserves.by_place (page - 1) }

-- what is marked of each page is so
abbrev pub AreReserves : Entries → List (Option ℕ) → Reserves → Type 0
AreReserves entries os reserves = (p : ℕ) → 1 ≤ p → p ≤ length os → AreTold entries (reserved_at reserves p) (slice_index_or os (p - 1) None) p

-- no page from one up to below another has a transaction's mark
abbrev pub HasNoMark : Reserves → ℕ → ℕ → ℕ → Type 0
HasNoMark reserves tx from to = (p : ℕ) → from ≤ p → p < to → bit_at (reserved_at reserves p).by_tx (tx_mark tx) ≡ 0

abbrev pub HasNoPlaceMark : Reserves → ℕ → ℕ → ℕ → ℕ → Type 0
HasNoPlaceMark reserves table tx from to = (p : ℕ) → from ≤ p → p < to → bit_at (reserved_at reserves p).by_place (place_mark table tx) ≡ 0

-- a page before which, from one on, that is so
pub record IsNextOf (reserves : Reserves) (tx from page : ℕ) : Type 0 where
  pub low : from ≤ page
  pub high : page ≤ reserves.pages
  pub before : HasNoMark reserves tx from page

pub record IsNextFor (reserves : Reserves) (table tx from page : ℕ) : Type 0 where
  pub low : from ≤ page
  pub high : page ≤ reserves.pages
  pub before : HasNoPlaceMark reserves table tx from page
