-- What a stop may leave, at a moment and at every moment between two.
use Rattle.std.specs.Prelude.{◌<◌, ◌≡◌, ◌⊎◌, ℕ, ◌≤◌}
use Rattle.ids_outside.specs.Counts.{last_count}

-- each outcome now comes by a step from an outcome before
abbrev pub Follows : {X : Type 0} → (X → X → Type 0) → (X → Type 0) → (X → Type 0) → Type 0
Follows {X} step old new = (c : X) → new c → (d : X) × old d × step d c

-- each outcome of the first kind is of the second
abbrev pub AreAmong : {X : Type 0} → (X → Type 0) → (X → Type 0) → Type 0
AreAmong {X} kind other = (c : X) → kind c → other c

-- a stop leaves this and nothing else
abbrev pub Only : {X : Type 0} → X → (X → Type 0) → Type 0
Only {X} x outcomes = (c : X) → outcomes c → c ≡ x

-- Time goes on by one call: what could be left at an earlier moment is the same after it, and what
-- could be left at a moment within it is what could be left before it or what can be left now.
pub record Elapses {X : Type 0} (before now : ℕ) (past since : ℕ → X → Type 0) (can_leave : X → Type 0) : Type 0 where
  pub later : before ≤ now
  pub nothing_else : now < last_count → (m : ℕ) (c : X) → since m c → past m c ⊎ ((before ≤ m) × can_leave c)
  pub keeps : now < last_count → (m : ℕ) (c : X) → past m c → since m c

-- From old to new time went on, and each outcome that could be left at a moment of it, or that can be left at
-- its end, comes by a step from an outcome that could be left before.
pub record Leaves {D X : Type 0} (now : D → ℕ) (can_leave : D → X → Type 0) (left_at : D → ℕ → X → Type 0) (old new : D) (step : X → X → Type 0) : Type 0 where
  pub later : now old ≤ now new
  pub ends : Follows step (can_leave old) (can_leave new)
  pub during : now new < last_count → (m : ℕ) → now old ≤ m → Follows step (can_leave old) (left_at new m)
  -- an earlier moment is as it was
  pub before : now new < last_count → (m : ℕ) → m < now old → AreAmong (left_at new m) (left_at old m)
  pub kept : now new < last_count → (m : ℕ) → AreAmong (left_at old m) (left_at new m)
