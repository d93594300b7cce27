-- One entry of a key.
use Rattle.std.specs.Prelude.{ℕ, Bool, true, false, not, ◌&&◌, ◌||◌, ◌==◌, Option, Some, None}
use Rattle.table_space.specs.declared.entry.Entry.{Entry}
use Rattle.table_space.specs.declared.entry.Held.{Held}
use Rattle.table_space.specs.declared.entry.Held.TheVariants.{Nowhere, Emptied, Filled}

-- the row id, where the row is there
abbrev pub filled_row : Held → Option ℕ
filled_row Nowhere = None
filled_row (Emptied row) = None
filled_row (Filled row) = Some row

-- the row is there
abbrev pub is_filled : Held → Bool
is_filled Nowhere = false
is_filled (Emptied row) = false
is_filled (Filled row) = true

-- in no slot yet
abbrev pub is_nowhere : Held → Bool
is_nowhere Nowhere = true
is_nowhere (Emptied row) = false
is_nowhere (Filled row) = false

-- in this slot, or gone from it
abbrev pub is_at : ℕ → Held → Bool
is_at row Nowhere = false
is_at row (Emptied held) = held == row
is_at row (Filled held) = held == row

-- gone from this slot
abbrev pub is_gone_from : ℕ → Held → Bool
is_gone_from row Nowhere = false
is_gone_from row (Emptied held) = held == row
is_gone_from row (Filled held) = false

-- in this slot
abbrev pub is_in : ℕ → Held → Bool
is_in row Nowhere = false
is_in row (Emptied held) = false
is_in row (Filled held) = held == row

-- the entry has the row id, filled or empty
abbrev pub has_row : ℕ → Entry → Bool
has_row row e = is_at row e.held

-- the entry has no row id
abbrev pub is_new : Entry → Bool
is_new e = is_nowhere e.held

-- the entry outlives the end of a transaction: it is filled, or another's
abbrev pub stays : ℕ → Entry → Bool
stays tx e = is_filled e.held || not (e.tx == tx)

-- a transaction may not have the slot: the entry fills it, or is another's and reserves it
abbrev pub blocks : ℕ → ℕ → Entry → Bool
blocks row tx e = is_in row e.held || (is_gone_from row e.held && not (e.tx == tx))

-- the entry fills the slot
abbrev pub fills : ℕ → Entry → Bool
fills row e = is_in row e.held
