-- What is known while the rows of tables are read.
use Rattle.std.specs.Prelude.{◌≡◌, ℕ, List, Some, None}
use Rattle.std.proofs.Common.{◌⊎◌}
use Rattle.ids_base.specs.declared.value.Value.{Value}
use Rattle.ids_base.specs.RowIds.{page_of}
use Rattle.row_codec.specs.Rows.{row_of}
use Rattle.ids_model.specs.declared.effect.Effect.{Effect}
use Rattle.ids_model.specs.declared.effect.Effect.TheVariants.{Change}
use Rattle.ids_model.specs.Tables.{Row, Shape, Name, Tables, shape_at, row_at}
use Rattle.ids_model.specs.Fits.{key_of, FitsOne}
use Rattle.ids_model.specs.Slots.{Bytes, Own, Slots, own_at, slot_at}
use Rattle.ids_model.specs.Stands.{catalogue, Holds}
use Rattle.ids_model.specs.Logged.{StandsWhole}
use Rattle.fast_recovery.specs.Reading.{AreEntries, IsRead}

-- Some slots hold the catalogue and the other rows that were read, and no others. They stand for the tables.
pub record RowsRead (own : Own) (slots : Slots) (rest : List (ℕ × Bytes)) (T : Tables) : Type 0 where
  pub rest_is : AreEntries slots rest
  pub read_rows : Slots
  pub of_rows : (slot : ℕ) (bytes : Bytes) → slot_at read_rows slot ≡ Some bytes → slot_at slots slot ≡ Some bytes
  pub fresh : (slot : ℕ) (bytes : Bytes) → slot_at read_rows slot ≡ Some bytes → (own_at own (page_of slot) ≡ Some catalogue) ⊎ IsRead rest slot
  pub first : (slot : ℕ) (bytes : Bytes) → Holds own slots slot catalogue bytes → slot_at read_rows slot ≡ Some bytes
  pub all : (slot : ℕ) (bytes : Bytes) → slot_at slots slot ≡ Some bytes → IsRead rest slot → slot_at read_rows slot ≡ Some bytes
  pub stands : StandsWhole own read_rows T

-- an effect puts a row that these bytes say into the table, which has no row with its key
pub record IsNewRow (T : Tables) (n : Name) (bytes : Bytes) (e : Effect) : Type 0 where
  pub shape : Shape
  pub row : Row
  pub key : Value
  pub is_there : shape_at T n ≡ Some shape
  pub says : row_of shape bytes ≡ Some row
  pub key_is : key_of row ≡ Some key
  pub absent : row_at T n key ≡ None
  pub effect_is : e ≡ Change n key None (Some row)
  pub fits : FitsOne T e

-- the table is not there, or the bytes are no row of it, or it has a row with that key
abbrev pub HasNoNewRow : Tables → Name → Bytes → Type 0
HasNoNewRow T n bytes = (shape : Shape) (row : Row) (key : Value) → shape_at T n ≡ Some shape → row_of shape bytes ≡ Some row → key_of row ≡ Some key → ¬ (row_at T n key ≡ None)
