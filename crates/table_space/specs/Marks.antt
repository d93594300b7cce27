-- Sets of marks on places, each a number whose bits are the marks, and the tree that is kept over them.
use Rattle.std.specs.Prelude.{◌≡◌, ℕ, ◌+◌, ◌*◌, ◌^◌, ◌≤◌, ◌<◌, List, length, slice_index}
use Rattle.std.specs.Int.{bit_at}
use Rattle.std.specs.Int.RustNames.{bit_or}

-- a power of two
pub record IsPower (n : ℕ) : Type 0 where
  pub of : ℕ
  pub is : n ≡ 2 ^ of

-- a node has the marks of the two below it
abbrev pub IsLaw : List ℕ → Type 0
IsLaw nodes = (n : ℕ) → 1 ≤ n → 2 * n < length nodes → slice_index nodes n ≡ bit_or (slice_index nodes (2 * n)) (slice_index nodes (2 * n + 1))

-- a tree over so many places
pub record IsTree (width : ℕ) (nodes : List ℕ) : Type 0 where
  pub power : IsPower width
  pub few : width ≤ 2147483648
  pub nodes_are : length nodes ≡ 2 * width
  pub law : IsLaw nodes

-- no place from one up to below another has the mark
abbrev pub IsUnmarked : List ℕ → ℕ → ℕ → ℕ → Type 0
IsUnmarked marks mark from to = (p : ℕ) → from ≤ p → p < to → bit_at (slice_index marks p) mark ≡ 0

-- the least place from one on that has the mark
pub record IsNext (marks : List ℕ) (mark from place : ℕ) : Type 0 where
  pub low : from ≤ place
  pub high : place < length marks
  pub marked : bit_at (slice_index marks place) mark ≡ 1
  pub before : IsUnmarked marks mark from place

-- the same among so many nodes behind the first ones
abbrev pub IsUnmarkedBelow : List ℕ → ℕ → ℕ → ℕ → ℕ → Type 0
IsUnmarkedBelow nodes first mark from to = (p : ℕ) → from ≤ p → p < to → bit_at (slice_index nodes (first + p)) mark ≡ 0

pub record IsNextBelow (nodes : List ℕ) (first mark from width place : ℕ) : Type 0 where
  pub low : from ≤ place
  pub high : place < width
  pub marked : bit_at (slice_index nodes (first + place)) mark ≡ 1
  pub before : IsUnmarkedBelow nodes first mark from place
