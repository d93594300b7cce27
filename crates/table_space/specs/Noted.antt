-- The entries of a key, in the order in which they were made.
use Rattle.std.specs.Prelude.{ℕ, Bool, true, not, ◌&&◌, ◌||◌, Option, Some, None, List, [], ◌∷◌, if◌then◌else◌}
use Rattle.std.specs.List.{list_any, list_all}
use Rattle.table_space.specs.declared.entry.Entry.{Entry}
use Rattle.table_space.specs.declared.entry.Held.TheVariants.{Nowhere, Emptied, Filled}
use Rattle.table_space.specs.Entries.{filled_row, is_filled, has_row, is_new}

-- an option, and another where it is none
abbrev pub or_else : Option ℕ → Option ℕ → Option ℕ
or_else None o = o
or_else (Some row) o = Some row

-- the row id of the key's filled entry
abbrev pub row_of : List Entry → Option ℕ
row_of [] = None
row_of (e ∷ es) = or_else (filled_row e.held) (row_of es)

-- an entry that a transaction makes
abbrev pub made : ℕ → Entry
made tx = record { held = Nowhere; tx = tx }

-- an entry with this row id that a transaction filled or emptied
abbrev pub changed : ℕ → Bool → ℕ → Entry
changed row filled tx = record { held = (if filled then Filled row else Emptied row); tx = tx }

-- another entry in place of the first that passes
abbrev pub put_first : (Entry → Bool) → Entry → List Entry → List Entry
put_first test new [] = []
put_first test new (e ∷ es) = if test e then new ∷ es else e ∷ put_first test new es

-- the entry with this row id is filled or emptied, else one without a row id
abbrev pub noted : ℕ → Bool → ℕ → List Entry → List Entry
noted row filled tx es = put_first (if list_any (has_row row) es then has_row row else is_new) (changed row filled tx) es

-- there is such an entry
abbrev pub has_entry_for : ℕ → Bool → List Entry → Bool
has_entry_for row filled es = list_any (has_row row) es || (filled && list_any is_new es)

-- no entry is filled
abbrev pub is_empty : List Entry → Bool
is_empty es = list_all (λ e. not (is_filled e.held)) es

-- no entry is filled but the first with this row id
abbrev pub is_alone : ℕ → List Entry → Bool
is_alone row [] = true
is_alone row (e ∷ es) = if has_row row e then is_empty es else not (is_filled e.held) && is_alone row es

-- the same, where the first with this row id was met or is still to come
abbrev pub is_alone_from : Bool → ℕ → List Entry → Bool
is_alone_from met row es = if met then is_empty es else is_alone row es

-- whether the first entry with a row id was met, once an entry was seen; none where another is filled
abbrev pub met_after : ℕ → Bool → Entry → Option Bool
met_after row met e = if not met && has_row row e then Some true else (if is_filled e.held then None else Some met)
