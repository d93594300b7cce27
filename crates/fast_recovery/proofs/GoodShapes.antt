-- Shapes in the catalogue are good ones, and their rows are short.
use Rattle.std.proofs.Common.{◌≡◌, ◌≤◌, ℕ, ◌&&◌, true, false, Bool, refl, length, Some}
use Rattle.std.specs.Prelude.{nat_le, nat_lt, ◌^◌}
use Rattle.std.specs.List.{list_all}
use Rattle.std.proofs.lemmas.Bool.{leb-true}
use Rattle.ids_base.specs.declared.shape.Column.{Column}
use Rattle.ids_base.specs.Names.{is_name}
use Rattle.ids_base.specs.Shapes.{row_length, have_bytes, has_good_sizes, is_distinct, is_good_key, is_shape}
use Rattle.row_codec.specs.Catalogue.{Entry, entry_of}
use Rattle.ids_model.specs.Tables.{Shape, Name}
use Rattle.ids_model.specs.Slots.{Bytes, Own, Slots}
use Rattle.ids_model.specs.Stands.{IsCatalogued}
use Rattle.ids_model.proofs.Holding.{is_entry_of}

both : (b c : Bool) → (b && c) ≡ true → (b ≡ true) × (c ≡ true)
both true c h = (refl, h)
both false c h = cc

-- a row of the catalogue has a shape that a table can have
pub good_entry : (bytes : Bytes) (e : Entry) → entry_of bytes ≡ Some e → is_shape e.shape ≡ true
good_entry bytes e says =
    let parts = both (nat_le 100 e.number && nat_lt e.number (2 ^ 32)) (is_name e.name && (list_all (λ (c : Column). is_name c.name) e.shape && is_shape e.shape)) (is_entry_of bytes e says) in
    let names = both (is_name e.name) (list_all (λ (c : Column). is_name c.name) e.shape && is_shape e.shape) parts.1 in
    (both (list_all (λ (c : Column). is_name c.name) e.shape) (is_shape e.shape) names.1).1

pub good_catalogued : (own : Own) (P : Slots) (number : ℕ) (name : Name) (shape : Shape) → IsCatalogued own P number name shape → is_shape shape ≡ true
good_catalogued own P number name shape d = good_entry d.row.bytes (record { number = number; name = name; shape = shape }) d.row.says

-- rows of such a shape have at most 800 bytes
pub short_rows : (shape : Shape) → is_shape shape ≡ true → row_length shape ≤ 800
short_rows shape good =
    let parts = both (nat_le (length shape) 16) (has_good_sizes shape && (is_distinct shape && is_good_key shape)) good in
    let sizes = both (has_good_sizes shape) (is_distinct shape && is_good_key shape) parts.1 in
    leb-true (row_length shape) 800 (both (have_bytes shape) (nat_le (row_length shape) 800) sizes.0).1
