-- What is found of tables in pages and slots.
use Rattle.std.specs.Prelude.{◌≡◌, ℕ, ◌≤◌, Some}
use Rattle.std.specs.FinMap as map
use Rattle.ids_base.specs.Values.{name_cmp}
use Rattle.ids_model.specs.Tables.{Shape, Name, Tables, shape_at}
use Rattle.ids_model.specs.Slots.{Own, Slots, own_at}
use Rattle.ids_model.specs.Recovered.{State}
use Rattle.ids_model.specs.Stands.{IsCatalogued}
use Rattle.ids_model.specs.Logged.{StandsWhole}

-- the number of each table, by name
abbrev pub Numbers : Type 0
Numbers = map.FinMap name_cmp ℕ

-- each table is in the catalogue with its number
pub record AreNumbered (own : Own) (slots : Slots) (T : Tables) (numbers : Numbers) : Type 0 where
  pub each : (name : Name) (shape : Shape) → shape_at T name ≡ Some shape → (number : ℕ) × (map.get numbers name ≡ Some number) × IsCatalogued own slots number name shape

-- no page and no row of the catalogue has a greater number of a table
pub record IsGreatest (own : Own) (slots : Slots) (greatest : ℕ) : Type 0 where
  pub least : 99 ≤ greatest
  pub owners : (page : ℕ) (owner : ℕ × ℕ) → own_at own page ≡ Some owner → owner.0 ≤ greatest
  pub catalogued : (number : ℕ) (name : Name) (shape : Shape) → IsCatalogued own slots number name shape → number ≤ greatest

-- pages and slots stand for the tables, each table has its number, and none has a greater one
pub record IsKept (s : State) (T : Tables) (numbers : Numbers) (greatest : ℕ) : Type 0 where
  pub stands : StandsWhole s.own s.slots T
  pub numbered : AreNumbered s.own s.slots T numbers
  pub no_greater : IsGreatest s.own s.slots greatest
