-- Where the node of an id, or of a list's head, stands.
use Rattle.std.specs.Prelude.{ℕ, ◌+◌, ◌-◌, Bool, ◌&&◌, ◌||◌, cond, nat_lt, nat_le}

-- places of heads count from here
abbrev pub head_place : ℕ → ℕ
head_place l = 2147483648 + l

-- the key of a place's node: heads first, then ids
abbrev pub slot_of : ℕ → ℕ → ℕ
slot_of lists place = cond (nat_lt place 2147483648) (lists + place) (place - 2147483648)

-- an id that is there, or the head of a list
abbrev pub is_place : ℕ → ℕ → ℕ → Bool
is_place lists ids q = nat_lt q ids || (nat_le 2147483648 q && nat_lt q (2147483648 + lists))
