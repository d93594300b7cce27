-- The pages that can have an owner.
use Rattle.std.specs.Prelude.{◌≡◌, ℕ, ◌<◌, ◌^◌, Some}
use Rattle.ids_model.specs.Slots.{Own, own_at}

-- each page that has an owner has a number of 24 bits, so that the row ids of its slots fit 32
abbrev pub ArePages : Own → Type 0
ArePages own = (page : ℕ) (owner : ℕ × ℕ) → own_at own page ≡ Some owner → page < 2 ^ 24
