-- What the directory says: the entries of each table and key.
use Rattle.std.specs.Prelude.{◌≡◌, ◌≤◌, ◌<◌, ℕ, true, List}
use Rattle.std.specs.List.{filter, list_any}
use Rattle.ids_base.specs.RowIds.{row_number}
use Rattle.ids_base.specs.declared.lock.Key.{Key}
use Rattle.table_space.specs.declared.entry.Entry.{Entry}
use Rattle.table_space.specs.Entries.{stays, blocks}

-- the entries of each table and key, in the order in which they were made
abbrev pub Entries : Type 0
Entries = ℕ → Key → List Entry

-- another table or another key
abbrev pub IsOther : ℕ → Key → ℕ → Key → Type 0
IsOther table key t k = ¬ ((t ≡ table) × (k ≡ key))

-- a key has these entries, and all other keys have theirs
pub record Changes (was now : Entries) (table : ℕ) (key : Key) (es : List Entry) : Type 0 where
  pub here : now table key ≡ es
  pub beside : (t : ℕ) (k : Key) → IsOther table key t k → now t k ≡ was t k

-- all keys have their entries
abbrev pub IsSame : Entries → Entries → Type 0
IsSame was now = (t : ℕ) (k : Key) → now t k ≡ was t k

-- the empty entries of a transaction are dropped, and no others
abbrev pub Ends : Entries → Entries → ℕ → Type 0
Ends was now tx = (t : ℕ) (k : Key) → now t k ≡ filter (stays tx) (was t k)

-- an entry of a table and key fills the slot, or reserves it for a transaction other than this one
pub record IsBlocked (entries : Entries) (row tx : ℕ) : Type 0 where
  pub table : ℕ
  pub key : Key
  pub by : list_any (blocks row tx) (entries table key) ≡ true

-- the slots of a page from 1 up to below one are filled or reserved for others
abbrev pub AreBlocked : Entries → ℕ → ℕ → ℕ → Type 0
AreBlocked entries page below tx = (slot : ℕ) → 1 ≤ slot → slot < below → IsBlocked entries (row_number page slot) tx

-- the first slot of a page, of so many, that is not
pub record IsFirstVacant (entries : Entries) (page slots tx slot : ℕ) : Type 0 where
  pub low : 1 ≤ slot
  pub high : slot ≤ slots
  pub free : ¬ IsBlocked entries (row_number page slot) tx
  pub before : AreBlocked entries page slot tx
