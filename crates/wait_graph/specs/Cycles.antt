-- Cycles of threads that wait for each other.
use Rattle.std.specs.Prelude.{◌≡◌, ℕ, List, ◌∷◌}
use Rattle.link_lists.specs.Lists.{Once}
use Rattle.ids_base.specs.Waits.{WaitInTurn}

-- different threads from `start` on, each waiting for the next, and the last for `start`
pub record IsCycle (waits : ℕ → ℕ → Type 0) (start : ℕ) (threads : List ℕ) : Type 0 where
  pub others : List ℕ
  pub starts : threads ≡ start ∷ others
  pub once : Once threads
  pub in_turn : WaitInTurn waits start threads
