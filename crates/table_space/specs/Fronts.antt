-- What is known of the slots of pages without a look at the entries.
use Rattle.std.specs.Prelude.{◌≡◌, ℕ, ◌-◌, ◌≤◌, ◌<◌, false, true, List, length, slice_index_or}
use Rattle.std.specs.List.{list_any}
use Rattle.ids_base.specs.RowIds.{row_number}
use Rattle.ids_base.specs.declared.lock.Key.{Key}
use Rattle.table_space.specs.declared.front.Front.{Front}
use Rattle.table_space.specs.Entries.{fills, has_row}
use Rattle.table_space.specs.Seen.{Entries, IsBlocked}

-- an entry of a table and key fills the slot
pub record IsFilled (entries : Entries) (row : ℕ) : Type 0 where
  pub table : ℕ
  pub key : Key
  pub by : list_any (fills row) (entries table key) ≡ true

-- an entry of a table and key has the slot: it fills it, or is empty and reserves it
pub record IsTaken (entries : Entries) (row : ℕ) : Type 0 where
  pub table : ℕ
  pub key : Key
  pub by : list_any (has_row row) (entries table key) ≡ true

-- no entry has the slot
abbrev pub HasNoEntry : Entries → ℕ → Type 0
HasNoEntry entries row = (t : ℕ) (k : Key) → list_any (has_row row) (entries t k) ≡ false

-- the slots of a page from 1 up to one are taken
abbrev pub AreTaken : Entries → ℕ → ℕ → Type 0
AreTaken entries page last = (slot : ℕ) → 1 ≤ slot → slot ≤ last → slot < 256 → IsTaken entries (row_number page slot)

-- they are filled or reserved for transactions other than one
abbrev pub AreBlockedTo : Entries → ℕ → ℕ → ℕ → Type 0
AreBlockedTo entries page last tx = (slot : ℕ) → 1 ≤ slot → slot ≤ last → slot < 256 → IsBlocked entries (row_number page slot) tx

-- no entry has a slot of the page above one
abbrev pub AreUnused : Entries → ℕ → ℕ → Type 0
AreUnused entries page last = (slot : ℕ) → last < slot → slot < 256 → HasNoEntry entries (row_number page slot)

-- what is known of a page is so
pub record IsFront (entries : Entries) (page : ℕ) (f : Front) : Type 0 where
  pub taken : AreTaken entries page f.taken
  pub used : AreUnused entries page f.used

-- and of each page
abbrev pub AreFronts : Entries → List Front → Type 0
AreFronts entries fs = (page : ℕ) (d : Front) → 1 ≤ page → page ≤ length fs → IsFront entries page (slice_index_or fs (page - 1) d)
