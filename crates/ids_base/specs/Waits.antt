-- Conflicts of locks, and which thread waits for which.
use Rattle.std.specs.Prelude.{◌≡◌, ℕ, Bool, true, false, ◌&&◌, ◌==◌, not, List, [], ◌∷◌, ◌++◌}
use Rattle.std.specs.List.{Contains}
use Rattle.std.proofs.Common.{◌⊎◌}
use Rattle.ids_base.specs.declared.lock.LockEntry.{LockEntry}
use Rattle.ids_base.specs.Locks.{compatible_modes}
use Rattle.ids_base.specs.LockNames.{is_same_name}

-- of two threads, on one name, in modes that two threads may not hold at once
abbrev pub conflicts : LockEntry → LockEntry → Bool
conflicts a b = not (a.thread == b.thread) && (is_same_name a.name b.name && not (compatible_modes a.mode b.mode))

-- a waits in a queue, and b is another holder in a mode that conflicts with the one a wants, or stands before it with such a wanted mode
pub record WaitsFor (held waiting : List LockEntry) (a b : ℕ) : Type 0 where
  pub waiter : LockEntry
  pub before : List LockEntry
  pub after : List LockEntry
  pub stands : waiting ≡ before ++ waiter ∷ after
  pub of_a : waiter.thread ≡ a
  pub other : LockEntry
  pub of_b : other.thread ≡ b
  pub there : Contains (held ++ before) other
  pub against : conflicts waiter other ≡ true

-- each of these waits for the next, and the last for `first`
abbrev pub WaitInTurn : (ℕ → ℕ → Type 0) → ℕ → List ℕ → Type 0
WaitInTurn waits first [] = Unit {0}
WaitInTurn waits first (a ∷ []) = waits a first
WaitInTurn waits first (a ∷ b ∷ rest) = waits a b × WaitInTurn waits first (b ∷ rest)
