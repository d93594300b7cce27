-- What is known while the catalogue is read.
use Rattle.std.specs.Prelude.{◌≡◌, ℕ, ◌≤◌, List, Some}
use Rattle.std.specs.FinMap as map
use Rattle.ids_model.specs.Tables.{Shape, Name}
use Rattle.ids_model.specs.Slots.{Bytes, Own, Slots, own_at, slot_at}
use Rattle.ids_model.specs.Stands.{catalogue, Holds, IsCatalogued}
use Rattle.ids_model.specs.Logged.{StandsWhole}
use Rattle.fast_recovery.specs.declared.catalogue.Catalogue.{Catalogue}
use Rattle.fast_recovery.specs.Reading.{AreEntries, IsRead, AreNames}

-- Some pages and slots hold the rows of the catalogue that were read, and no others. They stand for the tables, which have these numbers and names, and none has a greater number.
pub record CatalogueRead (own : Own) (slots : Slots) (rest : List (ℕ × Bytes)) (c : Catalogue) : Type 0 where
  pub rest_is : AreEntries slots rest
  pub read_pages : Own
  pub read_rows : Slots
  pub of_pages : (page : ℕ) (owner : ℕ × ℕ) → own_at read_pages page ≡ Some owner → (own_at own page ≡ Some owner) × (owner ≡ catalogue)
  pub of_rows : (slot : ℕ) (bytes : Bytes) → slot_at read_rows slot ≡ Some bytes → (slot_at slots slot ≡ Some bytes) × IsRead rest slot
  pub all : (slot : ℕ) (bytes : Bytes) → Holds own slots slot catalogue bytes → IsRead rest slot → slot_at read_rows slot ≡ Some bytes
  pub stands : StandsWhole read_pages read_rows c.tables
  pub names : AreNames read_pages read_rows c.names
  pub numbers : (number : ℕ) (name : Name) (shape : Shape) → IsCatalogued read_pages read_rows number name shape → map.get c.numbers name ≡ Some number
  pub least : 99 ≤ c.greatest
  pub greatest : (number : ℕ) (name : Name) (shape : Shape) → IsCatalogued read_pages read_rows number name shape → number ≤ c.greatest
