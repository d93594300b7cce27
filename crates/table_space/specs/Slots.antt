-- What is known of slots without a look at the entries.
use Rattle.std.specs.Prelude.{◌≡◌, ℕ, ◌+◌, ◌-◌, ◌<◌, ◌≤◌, Bool, true, not, ◌&&◌, ◌||◌, ◌==◌, List, Option, Some, None, min, nat_lt, slice_index_or, if◌then◌else◌}
use Rattle.std.specs.List.{count_by, sum_by}
use Rattle.table_space.specs.declared.entry.Entry.{Entry}
use Rattle.table_space.specs.declared.entry.Keyed.{Keyed}
use Rattle.table_space.specs.declared.slot.Slot.{Slot}
use Rattle.table_space.specs.Entries.{is_gone_from, fills, stays}

-- a count once there is one more, and once there is one less; 65535 stays
abbrev pub one_more : ℕ → ℕ
one_more count = min (count + 1) 65535

abbrev pub one_less : ℕ → ℕ
one_less count = if nat_lt count 65535 then count - 1 else 65535

-- a slot that no entry has, and one of which nothing is known
abbrev pub fresh : Slot
fresh = record { filled = 0; emptied = 0; reserved_for = 0 }

abbrev pub unknown : Slot
unknown = record { filled = 65535; emptied = 65535; reserved_for = 0 }

-- what is kept of all slots, each list by row id, and what that says of one
pub record Counts : Type 0 where
  pub filled : List ℕ
  pub emptied : List ℕ
  pub reserved_for : List ℕ

abbrev pub slot_at : Counts → ℕ → Slot
slot_at counts row = record { filled = slice_index_or counts.filled row 65535; emptied = slice_index_or counts.emptied row 65535; reserved_for = slice_index_or counts.reserved_for row 0 }

-- a slot once an entry more fills it, or one less
abbrev pub filled_more : Slot → Slot
filled_more slot = record { filled = one_more slot.filled; emptied = slot.emptied; reserved_for = slot.reserved_for }

abbrev pub filled_less : Slot → Slot
filled_less slot = record { filled = one_less slot.filled; emptied = slot.emptied; reserved_for = slot.reserved_for }

-- a slot once an empty entry more of a transaction reserves it, or one less
abbrev pub emptied_more : ℕ → Slot → Slot
emptied_more tx slot =
    if slot.emptied == 0
    then record { filled = slot.filled; emptied = 1; reserved_for = tx }
    else if slot.reserved_for == tx
    then record { filled = slot.filled; emptied = one_more slot.emptied; reserved_for = tx }
    else record { filled = slot.filled; emptied = 65535; reserved_for = slot.reserved_for }

abbrev pub emptied_less : Slot → Slot
emptied_less slot = record { filled = slot.filled; emptied = one_less slot.emptied; reserved_for = slot.reserved_for }

-- the entry is empty and reserves the slot, and does so for a transaction
abbrev pub reserves : ℕ → Entry → Bool
reserves row e = is_gone_from row e.held

abbrev pub reserves_for : ℕ → ℕ → Entry → Bool
reserves_for tx row e = reserves row e && (e.tx == tx)

-- a slot once an entry more is there, or one less
abbrev pub taken : ℕ → Entry → Slot → Slot
taken row e slot = if fills row e then filled_more slot else if reserves row e then emptied_more e.tx slot else slot

abbrev pub left : ℕ → Entry → Slot → Slot
left row e slot = if fills row e then filled_less slot else if reserves row e then emptied_less slot else slot

-- a slot at the end of a transaction, with which an entry goes or not
abbrev pub ended : ℕ → ℕ → Slot → Entry → Slot
ended row tx slot e = if stays tx e then slot else left row e slot

-- a count is known, and something is counted
abbrev pub is_some_known : ℕ → Bool
is_some_known count = nat_lt 0 count && nat_lt count 65535

-- the slot is known to be taken
abbrev pub known_taken : Slot → Bool
known_taken slot = is_some_known slot.filled || is_some_known slot.emptied

-- a transaction may have the slot reserved, and it is not known to be filled
abbrev pub may_be_left : ℕ → Slot → Bool
may_be_left tx slot = not (is_some_known slot.filled) && (nat_lt 0 slot.emptied && (slot.reserved_for == tx || not (nat_lt slot.emptied 65535)))

-- whether a transaction may not have the slot, where that is known
abbrev pub known_blocks : ℕ → Slot → Option Bool
known_blocks tx slot =
    if nat_lt 0 slot.filled && nat_lt slot.filled 65535
    then Some true
    else if slot.filled == 0 && nat_lt slot.emptied 65535
    then Some (nat_lt 0 slot.emptied && not (slot.reserved_for == tx))
    else None

-- one for a test that is passed
abbrev pub one : Bool → ℕ
one b = if b then 1 else 0

-- how many of all keys' entries pass a test
abbrev pub how_many : (Entry → Bool) → List Keyed → ℕ
how_many p ls = sum_by (λ l. count_by p l.entries.items) ls

-- one entry of a list went and another came, beside the same others: so it is for whatever is counted
pub record IsExchanged (was now : List Entry) (went came : Entry) : Type 0 where
  pub beside : List Entry
  pub before : (p : Entry → Bool) → count_by p was ≡ count_by p beside + one (p went)
  pub after : (p : Entry → Bool) → count_by p now ≡ count_by p beside + one (p came)

-- what is known of a slot is so, where so many entries pass a test
pub record IsCounted (slot : Slot) (row : ℕ) (passing : (Entry → Bool) → ℕ) : Type 0 where
  pub filled : slot.filled < 65535 → passing (fills row) ≡ slot.filled
  pub emptied : slot.emptied < 65535 → passing (reserves row) ≤ slot.emptied
  pub of_one : slot.emptied < 65535 → slot.emptied ≤ passing (reserves_for slot.reserved_for row)

-- and of each slot
abbrev pub AreCounts : Counts → List Keyed → Type 0
AreCounts counts ls = (row : ℕ) → IsCounted (slot_at counts row) row (λ p. how_many p ls)
