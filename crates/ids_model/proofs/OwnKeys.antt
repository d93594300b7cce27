-- Where tables are exactly what rows in slots stand for, each row stands under its own key.
use Rattle.std.proofs.Common.{◌≡◌, refl, sym, ap, ◌∙◌, Option, Some, None}
use Rattle.std.specs.FinMap.{get, get-empty}
use Rattle.ids_base.specs.declared.value.Value.{Value}
use Rattle.ids_base.specs.Values.{value_cmp}
use Rattle.ids_model.specs.Tables.{Row, Shape, Name, Table, Tables, shape_of, rows_in, shape_at, row_at}
use Rattle.ids_model.specs.Slots.{Own, Slots}
use Rattle.ids_model.specs.Stands.{Stands}
use Rattle.ids_model.specs.Keyed.{IsKeyed, AreKeyed}

-- a table with a row is there
with-row : (T : Tables) (n : Name) (k : Value) (row : Row) → row_at T n k ≡ Some row → (shape : Shape) × (shape_at T n ≡ Some shape)
with-row T n k row is = at (get T n) refl
  where
    at : (t : Option Table) → get T n ≡ t → (shape : Shape) × (shape_at T n ≡ Some shape)
    at None none =
        let nothing : row_at T n k ≡ None = ap (λ (o : Option Table). get (rows_in o) k) none ∙ get-empty value_cmp k in
        cc
    at (Some t) there = (t.shape, ap shape_of there)

pub standing-keyed : (own : Own) (slots : Slots) (T : Tables) → Stands own slots T → AreKeyed T
standing-keyed own slots T stands n k row is =
    let there = with-row T n k row is in
    let named = stands.tables n there.0 there.1 in
    (stands.held named.0 n there.0 named.1 k row is).at.key

-- the rows of a table that is there
pub keyed-rows : (T : Tables) (n : Name) (t : Table) → AreKeyed T → Some t ≡ get T n → IsKeyed t.rows
keyed-rows T n t keyed there k row is = keyed n k row (ap (λ (o : Option Table). get (rows_in o) k) (sym there) ∙ is)
