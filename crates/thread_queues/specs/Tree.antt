-- Limits in a tree of places.
use Rattle.std.specs.Prelude.{ℕ, ◌+◌, ◌*◌, ◌<◌, ◌≤◌, ◌≡◌, Option, None, List, length, slice_index_or}
use Rattle.thread_queues.specs.declared.event.Due.{Due}
use Rattle.thread_queues.specs.declared.limits.Node.{Node}
use Rattle.thread_queues.specs.Firsts.{least}

abbrev pub no_node : Node
no_node = record { own = None; first = None }

-- what a place has itself, and what it knows; nothing where there is no such place
abbrev pub own_at : List Node → ℕ → Option Due
own_at ns k = (slice_index_or ns k no_node).own

abbrev pub first_at : List Node → ℕ → Option Due
first_at ns k = (slice_index_or ns k no_node).first

-- the first of a place's own and of what the two below it know
abbrev pub first_below : List Node → ℕ → Option Due
first_below ns k = least (least (own_at ns k) (first_at ns (2 * k + 1))) (first_at ns (2 * k + 2))

-- each place knows the first of its own and of all below it
abbrev pub IsTree : List Node → Type 0
IsTree ns = (k : ℕ) → k < length ns → first_at ns k ≡ first_below ns k

pub record IsLimited (ns : List Node) : Type 0 where
  pub tree : IsTree ns
  pub few : length ns ≤ 2147483648
