-- Tests of bytes, slot by slot.
use Rattle.std.specs.Prelude.{ℕ, zero, suc, ◌+◌, ◌==◌, Bool, ◌&&◌, ◌||◌, List, take, drop, slice_index}
use Rattle.std.specs.List.{list_all}

abbrev pub are_zero : List ℕ → Bool
are_zero bytes = list_all (λ b. b == 0) bytes

-- a slot begins with 1 or is all zero
abbrev pub is_slot : List ℕ → Bool
is_slot slot = slice_index slot 0 == 1 || are_zero slot

-- so many slots, and zeros behind them
abbrev pub are_slots : ℕ → ℕ → List ℕ → Bool
are_slots length zero bytes = are_zero bytes
are_slots length (suc n) bytes = is_slot (take (length + 1) bytes) && are_slots length n (drop (length + 1) bytes)
