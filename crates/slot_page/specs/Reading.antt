-- What bytes say of a page.
use Rattle.std.specs.Prelude.{ℕ, zero, suc, ◌+◌, ◌==◌, ◌≡◌, Bool, ◌&&◌, ◌||◌, if◌then◌else◌, nat_le, Option, Some, None, List, [], ◌∷◌, take, drop}
use Rattle.std.specs.Int.{w16, w32, from_be_bytes}
use Rattle.std.specs.Str.{bytes_eq}
use Rattle.ids_base.specs.RowIds.{slot_count}
use Rattle.slot_page.specs.Pages.{Paged, IsPage, page_bytes}

-- the owner and the rows' length that the head names
unfoldable pub owner_of : List ℕ → ℕ
owner_of bytes = from_be_bytes w32 (take 4 bytes)

unfoldable pub length_of : List ℕ → ℕ
length_of bytes = from_be_bytes w16 (take 2 (drop 4 bytes))

-- the row of a slot: none behind a 0
abbrev pub slot_of : ℕ → List ℕ → Option (List ℕ)
slot_of length [] = None
slot_of length (tag ∷ row) = if tag == 0 then None else Some (take length row)

-- the rows of so many slots
abbrev pub slots_of : ℕ → ℕ → List ℕ → List (Option (List ℕ))
slots_of length zero bytes = []
slots_of length (suc n) bytes = slot_of length bytes ∷ slots_of length n (drop (length + 1) bytes)

-- the rows behind the head; none where no table owns the page
unfoldable pub rows_of : List ℕ → List (Option (List ℕ))
rows_of bytes = if owner_of bytes == 0 then [] else slots_of (length_of bytes) (slot_count (length_of bytes)) (drop 8 bytes)

-- a page read from bytes, whether or not they spell it
abbrev pub read_page : List ℕ → Paged
read_page bytes = record { owner = owner_of bytes; length = length_of bytes; rows = rows_of bytes }

-- no owner and no length of rows; or a table and rows of 1 to 800 bytes
abbrev pub is_head : Paged → Bool
is_head p = (p.owner == 0 && p.length == 0) || ((p.owner == 1 || nat_le 100 p.owner) && (nat_le 1 p.length && nat_le p.length 800))

-- the page, where these bytes are its spelling
abbrev pub where_spelled : Paged → List ℕ → Option Paged
where_spelled p bytes = if is_head p && bytes_eq bytes (page_bytes p) then Some p else None

-- the page that bytes spell; none where what is read from them is no page, or is spelled by other bytes
unfoldable pub page_of : List ℕ → Option Paged
page_of bytes = where_spelled (read_page bytes) bytes

-- bytes that spell the page that is read from them
pub record IsPageBytes (bytes : List ℕ) : Type 0 where
  pub page : IsPage (read_page bytes)
  pub spelled : bytes ≡ page_bytes (read_page bytes)
