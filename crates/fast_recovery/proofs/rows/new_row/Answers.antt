use Rattle.std.proofs.Common.{◌≡◌, Bor, false, Option, Some, None, [], ◌∷◌, is_some, refl, ap, sym, subst, ◌∙◌, inr, arith}
use Rattle.std.specs.Prelude.{option_copied}
use Rattle.std.specs.List.{slice_get}
use Rattle.std.specs.FinMap as map
use Rattle.ids_base.specs.declared.value.Value.{Value}
use Rattle.row_codec.specs.Rows.{row_of}
use Rattle.row_codec.proofs.RowBytes.{row-spelled}
use Rattle.ids_model.specs.declared.effect.Effect.{Effect}
use Rattle.ids_model.specs.declared.effect.Effect.TheVariants.{Change}
use Rattle.ids_model.specs.Fits.{key_of, FitsOne}
use Rattle.ids_model.specs.Tables.{Name, Row, Shape, Table, shape_of, rows_in, shape_at, row_at}
use Rattle.fast_recovery.proofs.rows.new_row.Goals as goal

key_at : (row : Row) (k : Value) → Some k ≡ slice_get row 0 → key_of row ≡ Some k
key_at [] k is = cc
key_at (v ∷ vs) k is = sym is

none_copied : {A : Type 0} (o : Option (Bor A)) → is_some o ≡ false → option_copied o ≡ None
none_copied None is = refl
none_copied (Some x) is = cc

pub returns : goal.returns
returns c = record {
  shape = shape;
  row = row;
  key = key;
  is_there = there;
  says = says;
  key_is = key_is;
  absent = absent;
  effect_is = same;
  fits = subst (λ (e : Effect). FitsOne c.args.tables.now e) (sym same) (record {
    shape = shape;
    is_there = there;
    some = inr refl;
    fits_before = tt;
    fits_after = ((row-spelled shape c.args.bytes.now row (record { below = λ i. omega (arith, c.type_inv.bytes i) }) says).0, key_is);
    found = absent;
  });
}
  where
    shape : Shape
    shape = c.in-Some.table.now.shape

    row : Row
    row = c.in-Some-2.row

    key : Value
    key = c.in_ok-key.key

    there : shape_at c.args.tables.now c.args.name.now ≡ Some shape
    there = ap shape_of (sym c.in-Some.ensures)

    says : row_of shape c.args.bytes.now ≡ Some row
    says = sym (ap (λ (s : Shape). row_of s c.args.bytes.now) c.shape.ensures) ∙ sym c.in_ok-row.ensures ∙ c.in-Some-2.is

    key_is : key_of row ≡ Some key
    key_is = key_at row key (ap (λ (k : Value). Some k) c.in_ok-key.ensures ∙ c.in-Some-first.ensures.value ∙ ap (λ (r : Row). slice_get r 0) c.as_slice.ensures)

    absent : row_at c.args.tables.now c.args.name.now key ≡ None
    absent =
        ap (λ (t : Option Table). map.get (rows_in t) key) (sym c.in-Some.ensures)
        ∙ ap (map.get c.in-Some.table.now.rows) c.in_ok-key.ensures
        ∙ sym c.row-2.ensures
        ∙ none_copied c.row-2.result (sym c.is_some.ensures ∙ c.if-is_some.false)

    same : ◌≡◌ {A = Effect} (Change c.copy-2.result key None (Some row)) (Change c.args.name.now key None (Some row))
    same = ap (λ (n : Name). Change n key None (Some row)) c.copy-2.ensures
