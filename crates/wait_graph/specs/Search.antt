-- The threads found from a start along waits, each from one found before.
use Rattle.std.specs.Prelude.{◌≡◌, ◌≢◌, ℕ, ◌<◌, ◌≤◌, true, List, length, slice_index}
use Rattle.wait_graph.specs.Targets.{among}

-- a waits for b
abbrev pub Waits : (ℕ → List ℕ) → ℕ → ℕ → Type 0
Waits next a b = among b (next a) ≡ true

-- all are different numbers of threads, the first is the start, and each other waits behind its parent, which stands before it
pub record IsTree (next : ℕ → List ℕ) (start : ℕ) (found parents : List ℕ) : Type 0 where
  pub same_length : length parents ≡ length found
  pub some : 0 < length found
  pub first : slice_index found 0 ≡ start
  pub parent : (j : ℕ) → 0 < j → j < length found → (slice_index parents j < j) × Waits next (slice_index found (slice_index parents j)) (slice_index found j)
  pub numbers : (j : ℕ) → j < length found → slice_index found j < 4294967296
  pub apart : (j k : ℕ) → j < k → k < length found → slice_index found j ≢ slice_index found k

-- whom the thread at place j waits for is found, and is not the start
abbrev pub IsClosedAt : (ℕ → List ℕ) → ℕ → List ℕ → ℕ → Type 0
IsClosedAt next start found j = (b : ℕ) → Waits next (slice_index found j) b → (b ≢ start) × (among b found ≡ true)

-- the old ones stand where they stood
pub record IsLonger (old new : List ℕ) : Type 0 where
  pub length_grows : length old ≤ length new
  pub same : (j : ℕ) → j < length old → slice_index new j ≡ slice_index old j
