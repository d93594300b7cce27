-- Rows of tables that are broken.
use Rattle.std.proofs.Common.{◌≡◌, ◌<◌, ℕ, true, false, Bool, refl, ap, sym, ◌∙◌, subst, List, [], ◌∷◌, Option, Some, None, ◌⊎◌, inl, inr, arith}
use Rattle.std.specs.Prelude.{length, take, drop, nat_le, if◌then◌else◌}
use Rattle.std.specs.FinMap as map
use Rattle.ids_base.specs.declared.value.Value.{Value}
use Rattle.ids_base.specs.RowIds.{page_of}
use Rattle.ids_base.specs.Shapes.{size_of, is_shape}
use Rattle.row_codec.specs.Rows.{value_of, joined, row_of}
use Rattle.ids_model.specs.Tables.{Row, Shape, Name, Tables, row_at}
use Rattle.ids_model.specs.Fits.{key_of}
use Rattle.ids_model.specs.Slots.{Bytes, Own, Slots, own_at}
use Rattle.ids_model.specs.Stands.{catalogue, owner_of, Holds, IsCatalogued, TableRow}
use Rattle.ids_model.proofs.Holding.{none_some, some_same, catalogue_moves, row_moves, one_owner}
use Rattle.fast_recovery.specs.BrokenRows.{HasShape, IsBrokenRow, no_table, no_row_said, key_repeated}
use Rattle.fast_recovery.specs.Reading.{Names, AreNames, IsRead}
use Rattle.fast_recovery.specs.RowsRead.{RowsRead, HasNoNewRow}
use Rattle.fast_recovery.proofs.GoodShapes.{good_catalogued}
use Rattle.fast_recovery.proofs.RowsGrow.{row_read, its_table}

-- a shape has a column, so what bytes say of it has a key
has_column : (shape : Shape) → is_shape shape ≡ true → shape ≡ [] → ⊥
has_column shape good none = let never : is_shape [] ≡ true = subst (λ (s : Shape). is_shape s ≡ true) none good in cc

joined_key : (v : Option Value) (rest : Option Row) (row : Row) → joined v rest ≡ Some row → (k : Value) × (key_of row ≡ Some k)
joined_key None rest row e = absurd (none_some row e)
joined_key (Some v) None row e = absurd (none_some row e)
joined_key (Some v) (Some vs) row e = (v, sym (ap key_of (some_same (v ∷ vs) row e)))

has_key : (shape : Shape) (bytes : Bytes) (row : Row) → row_of shape bytes ≡ Some row → (shape ≡ [] → ⊥) → (k : Value) × (key_of row ≡ Some k)
has_key [] bytes row e some = absurd (some refl)
has_key (c ∷ cs) bytes row e some = inside (nat_le (size_of c.kind) (length bytes)) e
  where
    inside : (b : Bool) → (if b then joined (value_of c.kind (take (size_of c.kind) bytes)) (row_of cs (drop (size_of c.kind) bytes)) else None) ≡ Some row → (k : Value) × (key_of row ≡ Some k)
    inside true is = joined_key _ _ row is
    inside false is = absurd (none_some row is)

module _ (own : Own) (slots : Slots) (rest : List (ℕ × Bytes)) (T : Tables) (slot : ℕ) (bytes : Bytes) (r : RowsRead own slots ((slot, bytes) ∷ rest) T)
    (o : ℕ × ℕ) (owned : own_at own (page_of slot) ≡ Some o) (other : o.0 ≡ 1 → ⊥) (names : Names) (are : AreNames own slots names) where
  this : Holds own slots slot o bytes
  this = record { owned = owned; stored = r.rest_is.0 }

  -- a row of a number that no table has
  pub row_unnamed : map.get names o.0 ≡ None → IsBrokenRow own slots slot
  row_unnamed none = no_table (record { owner = o; bytes = bytes; holds = this; other = other; absent = λ name shape d. none_some name (sym none ∙ are.all o.0 name shape d) })

  module _ (n : Name) (named : map.get names o.0 ≡ Some n) where
    table : (s : Shape) × IsCatalogued own r.read_rows o.0 n s
    table = its_table own slots rest T slot bytes r o owned other names are n named

    -- the table's row of the catalogue is its first, since it is the only one
    the_shape : HasShape own slots o.0 table.0
    the_shape = record {
      slot = table.1.slot;
      name = n;
      row = catalogue_moves own own r.read_rows slots table.1.slot o.0 n table.0 (λ b h. record { owned = h.owned; stored = r.of_rows table.1.slot b h.stored }) table.1.row;
      first = λ q m s d.
          let same : q ≡ table.1.slot = r.stands.whole.numbers q table.1.slot o.0 m n s table.0 (row_read own slots rest T slot bytes r o owned other q o.0 m s d) table.1.row in
          omega arith;
    }

    owner_is : o ≡ owner_of o.0 table.0
    owner_is = (r.stands.whole.pages (page_of slot) o owned).others n table.0 table.1

    -- a row of the table that was read has a lesser row id
    lesser : (q : ℕ) (k : Value) (w : Row) → TableRow own r.read_rows q o.0 table.0 k w → q < slot
    lesser q k w old = inside (r.fresh q old.bytes old.holds.stored)
      where
        inside : (own_at own (page_of q) ≡ Some catalogue) ⊎ IsRead ((slot, bytes) ∷ rest) q → q < slot
        inside (inl first) = absurd (other (ap (λ (x : ℕ × ℕ). x.0) (one_owner own (page_of q) (owner_of o.0 table.0) catalogue old.holds.owned first)))
        inside (inr read) = r.rest_is.3 q old.bytes (r.of_rows q old.bytes old.holds.stored) read

    -- a row with the key of one that was read
    key_twice : (row : Row) (k : Value) (w : Row) → row_of table.0 bytes ≡ Some row → key_of row ≡ Some k → row_at T n k ≡ Some w → IsBrokenRow own slots slot
    key_twice row k w says key is =
        let old = r.stands.stands.held o.0 n table.0 table.1 k w is in
        key_repeated (record {
          lesser = old.slot;
          number = o.0;
          shape = table.0;
          key = k;
          values = row;
          earlier_values = w;
          named = the_shape;
          this = record { bytes = bytes; holds = subst (λ (x : ℕ × ℕ). Holds own slots slot x bytes) owner_is this; says = says; key = key };
          earlier = row_moves own own r.read_rows slots old.slot o.0 table.0 k w (λ b h. record { owned = h.owned; stored = r.of_rows old.slot b h.stored }) old.at;
          less = lesser old.slot k w old.at;
        })

    -- a row that its table cannot take
    pub row_refused : HasNoNewRow T n bytes → IsBrokenRow own slots slot
    row_refused none = by_row (row_of table.0 bytes) refl
      where
        by_key : (row : Row) (k : Value) → row_of table.0 bytes ≡ Some row → key_of row ≡ Some k → (w : Option Row) → row_at T n k ≡ w → IsBrokenRow own slots slot
        by_key row k says key None is = absurd (none table.0 row k (r.stands.stands.shapes o.0 n table.0 table.1) says key is)
        by_key row k says key (Some w) is = key_twice row k w says key is

        by_row : (v : Option Row) → row_of table.0 bytes ≡ v → IsBrokenRow own slots slot
        by_row None is = no_row_said (record { owner = o; bytes = bytes; shape = table.0; holds = this; named = the_shape; says = is })
        by_row (Some row) is =
            let key = has_key table.0 bytes row is (has_column table.0 (good_catalogued own r.read_rows o.0 n table.0 table.1)) in
            by_key row key.0 is key.1 (row_at T n key.0) refl
