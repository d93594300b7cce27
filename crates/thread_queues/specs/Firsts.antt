-- The first of limits by place.
use Rattle.std.specs.Prelude.{ℕ, ◌≡◌, false, Option, Some, None, List, slice_index_or}
use Rattle.thread_queues.specs.declared.event.Due.{Due}
use Rattle.thread_queues.specs.Ticks.{earlier, is_before}

-- the first of two, where either may be missing
abbrev pub least : Option Due → Option Due → Option Due
least first None = first
least first (Some d) = earlier first d

-- the limit of a place
abbrev pub due_at : List (Option Due) → ℕ → Option Due
due_at ds k = slice_index_or ds k None

-- there is a first, and d does not come before it
abbrev pub IsBehind : Due → Option Due → Type 0
IsBehind d None = ⊥
IsBehind d (Some first) = is_before d first ≡ false

-- it is the limit of a place, and no place's limit comes before it; there is none only where no place has a limit
pub record IsFirst (ds : List (Option Due)) (first : Option Due) : Type 0 where
  pub among : (d : Due) → first ≡ Some d → (k : ℕ) × (due_at ds k ≡ Some d)
  pub behind : (k : ℕ) (d : Due) → due_at ds k ≡ Some d → IsBehind d first
