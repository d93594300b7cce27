-- Pages and rows that can stand in a list of pages.
use Rattle.std.specs.Prelude.{◌≡◌, ◌⊎◌, ◌≤◌, ◌<◌, ◌^◌, ◌%◌, ℕ, Some, All, length}
use Rattle.ids_base.specs.RowIds.{page_of, slot_count}
use Rattle.ids_model.specs.Slots.{Bytes, Own, Slots, own_at, slot_at}

-- a page that can have an owner, and such an owner: a table's number and the length of its rows
pub record IsPageOwner (pages page : ℕ) (owner : ℕ × ℕ) : Type 0 where
  pub first : 1 ≤ page
  pub last : page ≤ pages
  pub table : (owner.0 ≡ 1) ⊎ (100 ≤ owner.0)
  pub small : owner.0 < 2 ^ 32
  pub some : 1 ≤ owner.1
  pub few : owner.1 ≤ 800

-- a row in a slot of a page of its length
pub record IsPagedRow (own : Own) (slot : ℕ) (row : Bytes) : Type 0 where
  pub owner : ℕ × ℕ
  pub owned : own_at own (page_of slot) ≡ Some owner
  pub low : 1 ≤ slot % 256
  pub high : slot % 256 ≤ slot_count owner.1
  pub sized : length row ≡ owner.1
  pub bytes : All (λ b. b < 256) row

-- each page that has an owner, and each row
pub record IsPaged (pages : ℕ) (own : Own) (slots : Slots) : Type 0 where
  pub owners : (page : ℕ) (owner : ℕ × ℕ) → own_at own page ≡ Some owner → IsPageOwner pages page owner
  pub rows : (slot : ℕ) (bytes : Bytes) → slot_at slots slot ≡ Some bytes → IsPagedRow own slot bytes
