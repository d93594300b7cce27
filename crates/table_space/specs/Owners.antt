-- The owners of pages, from page 1 on.
use Rattle.std.specs.Prelude.{◌≡◌, ℕ, ◌≤◌, ◌<◌, ◌-◌, Bool, false, ◌==◌, List, Option, Some, None, length, slice_index_or}

-- the page is the table's
abbrev pub is_own : ℕ → Option ℕ → Bool
is_own table None = false
is_own table (Some t) = t == table

-- the owner of a page
abbrev pub owner_in : List (Option ℕ) → ℕ → Option ℕ
owner_in os page = slice_index_or os (page - 1) None

-- a page has no owner
pub record IsUnowned (os : List (Option ℕ)) (page : ℕ) : Type 0 where
  pub first : 1 ≤ page
  pub last : page ≤ length os
  pub unowned : owner_in os page ≡ None

-- the least of them
pub record IsLeastUnowned (os : List (Option ℕ)) (page : ℕ) : Type 0 where
  pub one : IsUnowned os page
  pub least : (p : ℕ) → IsUnowned os p → page ≤ p

-- there is none
abbrev pub HasNoUnowned : List (Option ℕ) → Type 0
HasNoUnowned os = (page : ℕ) → ¬ IsUnowned os page

-- a page is a table's
pub record IsOwned (os : List (Option ℕ)) (table page : ℕ) : Type 0 where
  pub first : 1 ≤ page
  pub last : page ≤ length os
  pub owned : owner_in os page ≡ Some table

-- the least page behind one that a table owns
pub record IsNextOwned (os : List (Option ℕ)) (table from page : ℕ) : Type 0 where
  pub one : IsOwned os table page
  pub behind : from < page
  pub least : (p : ℕ) → IsOwned os table p → from < p → page ≤ p

-- there is none
abbrev pub HasNoNextOwned : List (Option ℕ) → ℕ → ℕ → Type 0
HasNoNextOwned os table from = (page : ℕ) → IsOwned os table page → page ≤ from
