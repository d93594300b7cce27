-- Data pages, and the bytes that spell them.
use Rattle.std.specs.Prelude.{ℕ, ◌-◌, ◌^◌, ◌≡◌, ◌<◌, ◌≤◌, ◌⊎◌, Option, Some, None, IfSome, All, List, [], ◌∷◌, ◌++◌, length, replicate, slice_set, slice_index_or}
use Rattle.std.specs.List.{flat_map}
use Rattle.std.specs.Int.{w16, w32, to_be_bytes}
use Rattle.ids_base.specs.RowIds.{slot_count}

-- a page: the number of the table that owns it, 0 where none does; how many bytes its rows have; and for each slot its row, if it has one
pub record Paged : Type 0 where
  pub owner : ℕ
  pub length : ℕ
  pub rows : List (Option (List ℕ))

-- a slot: 1 and the bytes of its row; or, where it is empty, as many zeros
abbrev pub slot_bytes : ℕ → Option (List ℕ) → List ℕ
slot_bytes length None = 0 ∷ replicate length 0
slot_bytes length (Some row) = 1 ∷ row

-- eight bytes: the owner, the rows' length, how many slots there are, and a zero
abbrev pub head_bytes : Paged → List ℕ
head_bytes p = (to_be_bytes w32 p.owner ++ to_be_bytes w16 p.length) ++ length p.rows ∷ 0 ∷ []

-- the slots one after another
abbrev pub slots_bytes : ℕ → List (Option (List ℕ)) → List ℕ
slots_bytes length rows = flat_map (slot_bytes length) rows

-- zeros up to 2048 bytes
abbrev pub filled : List ℕ → List ℕ
filled used = used ++ replicate (2048 - length used) 0

-- the one spelling of a page: the head, the slots, and zeros
unfoldable pub page_bytes : Paged → List ℕ
page_bytes p = filled (head_bytes p ++ slots_bytes p.length p.rows)

-- each number is that of a byte
abbrev pub AreBytes : List ℕ → Type 0
AreBytes bytes = All (λ b. b < 256) bytes

-- a table's number: 1 or at least 100
abbrev pub IsTable : ℕ → Type 0
IsTable table = (table ≡ 1) ⊎ (100 ≤ table)

-- rows have 1 to 800 bytes
pub record IsRowLength (n : ℕ) : Type 0 where
  pub some : 1 ≤ n
  pub few : n ≤ 800

-- a row of a page has its bytes, as many as each row there
pub record IsRow (n : ℕ) (row : List ℕ) : Type 0 where
  pub sized : length row ≡ n
  pub bytes : AreBytes row

-- each row that is there is one of so many bytes
abbrev pub AreRows : ℕ → List (Option (List ℕ)) → Type 0
AreRows n rows = All (λ row. IfSome row (IsRow n)) rows

-- a page that no table owns has no rows
pub record IsUnowned (p : Paged) : Type 0 where
  pub owner : p.owner ≡ 0
  pub length : p.length ≡ 0
  pub rows : p.rows ≡ []

-- a page of a table has as many slots as its rows' length allows, and each slot is empty or has a row of that length
pub record IsOwned (p : Paged) : Type 0 where
  pub table : IsTable p.owner
  pub small : p.owner < 2 ^ 32
  pub sized : IsRowLength p.length
  pub slots : length p.rows ≡ slot_count p.length
  pub rows : AreRows p.length p.rows

-- a page is owned by no table or by one
abbrev pub IsPage : Paged → Type 0
IsPage p = IsUnowned p ⊎ IsOwned p

-- the page that no table owns
abbrev pub unowned : Paged
unowned = record { owner = 0; length = 0; rows = [] }

-- the page of a table with every slot empty
abbrev pub formatted : ℕ → ℕ → Paged
formatted table length = record { owner = table; length = length; rows = replicate (slot_count length) None }

-- the page has a slot of this number; slots count from 1
pub record HasSlot (p : Paged) (slot : ℕ) : Type 0 where
  pub from_one : 1 ≤ slot
  pub there : slot ≤ length p.rows

-- the row in a slot
abbrev pub row_at : Paged → ℕ → Option (List ℕ)
row_at p slot = slice_index_or p.rows (slot - 1) None

-- the page with this in a slot, and all else as it was
abbrev pub with_row : Paged → ℕ → Option (List ℕ) → Paged
with_row p slot row = record p { rows = slice_set p.rows (slot - 1) row }
