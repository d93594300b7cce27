-- Where a new row goes, among the pages 1 to a last one.
use Rattle.std.specs.Prelude.{◌≡◌, ℕ, ◌≤◌, Some, None}
use Rattle.std.proofs.Common.{◌⊎◌}
use Rattle.ids_base.specs.RowIds.{row_number, slot_count}
use Rattle.ids_model.specs.Slots.{own_at, slot_at}
use Rattle.ids_model.specs.Recovered.{State}

-- an empty slot of a page that has this owner
pub record IsVacantFor (s : State) (owner : ℕ × ℕ) (pages page slot : ℕ) : Type 0 where
  pub first : 1 ≤ page
  pub last : page ≤ pages
  pub owned : own_at s.own page ≡ Some owner
  pub low : 1 ≤ slot
  pub high : slot ≤ slot_count owner.1
  pub vacant : slot_at s.slots (row_number page slot) ≡ None

-- there is no such slot
abbrev pub HasNoVacant : State → ℕ × ℕ → ℕ → Type 0
HasNoVacant s owner pages = (page slot : ℕ) → ¬ IsVacantFor s owner pages page slot

-- a page that has no owner
pub record IsUnowned (s : State) (pages page : ℕ) : Type 0 where
  pub first : 1 ≤ page
  pub last : page ≤ pages
  pub unowned : own_at s.own page ≡ None

-- the least row id among the empty slots of the owner's pages
pub record IsLeastVacant (s : State) (owner : ℕ × ℕ) (pages page slot : ℕ) : Type 0 where
  pub vacant : IsVacantFor s owner pages page slot
  pub least : (p q : ℕ) → IsVacantFor s owner pages p q → row_number page slot ≤ row_number p q

-- slot 1 of the least page without an owner, where the owner's pages are full
pub record IsFresh (s : State) (owner : ℕ × ℕ) (pages page slot : ℕ) : Type 0 where
  pub full : HasNoVacant s owner pages
  pub unowned : IsUnowned s pages page
  pub least : (p : ℕ) → IsUnowned s pages p → page ≤ p
  pub slot_is : slot ≡ 1

-- the place for a row of this owner
abbrev pub IsPlaceFor : State → ℕ × ℕ → ℕ → ℕ → ℕ → Type 0
IsPlaceFor s owner pages page slot = IsLeastVacant s owner pages page slot ⊎ IsFresh s owner pages page slot

-- there is none
pub record HasNoPlace (s : State) (owner : ℕ × ℕ) (pages : ℕ) : Type 0 where
  pub full : HasNoVacant s owner pages
  pub owned : (page : ℕ) → ¬ IsUnowned s pages page
