-- Rows that stand under their own keys, among which a row is found by its key.
use Rattle.std.specs.Prelude.{◌≡◌, List, [], ◌∷◌, Option, Some, None}
use Rattle.std.specs.FinMap.{get}
use Rattle.ids_base.specs.declared.value.Value.{Value}
use Rattle.ids_model.specs.Tables.{Row, Name, Rows, Tables, row_at}
use Rattle.ids_model.specs.Fits.{key_of}

-- each row stands under its own key
abbrev pub IsKeyed : Rows → Type 0
IsKeyed m = (k : Value) (row : Row) → get m k ≡ Some row → key_of row ≡ Some k

-- in each table
abbrev pub AreKeyed : Tables → Type 0
AreKeyed T = (n : Name) (k : Value) (row : Row) → row_at T n k ≡ Some row → key_of row ≡ Some k

-- a row with its key, if there is one
abbrev pub entry : Value → Option Row → List (Value × Row)
entry k None = []
entry k (Some row) = (k, row) ∷ []
