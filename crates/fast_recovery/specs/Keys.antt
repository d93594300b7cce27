-- The row of a table that has a key.
use Rattle.std.specs.Prelude.{◌≡◌, ℕ, Some}
use Rattle.ids_base.specs.declared.value.Value.{Value}
use Rattle.row_codec.specs.Rows.{row_of}
use Rattle.ids_model.specs.Tables.{Row, Shape}
use Rattle.ids_model.specs.Fits.{key_of}
use Rattle.ids_model.specs.Slots.{Bytes}
use Rattle.ids_model.specs.Recovered.{State}
use Rattle.ids_model.specs.Stands.{TableRow}

-- bytes say a row with this key
pub record SaysKey (shape : Shape) (k : Value) (bytes : Bytes) : Type 0 where
  pub row : Row
  pub says : row_of shape bytes ≡ Some row
  pub key : key_of row ≡ Some k

-- a slot of the table with this number and shape holds a row with this key
pub record HasKey (s : State) (number : ℕ) (shape : Shape) (k : Value) (slot : ℕ) : Type 0 where
  pub row : Row
  pub at : TableRow s.own s.slots slot number shape k row

-- no slot of the table does
abbrev pub HasNoKey : State → ℕ → Shape → Value → Type 0
HasNoKey s number shape k = (slot : ℕ) → ¬ HasKey s number shape k slot
