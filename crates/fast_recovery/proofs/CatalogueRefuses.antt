-- Rows of the catalogue that are broken.
use Rattle.std.proofs.Common.{◌≡◌, ◌<◌, ℕ, true, refl, List, ◌∷◌, Option, Some, None, is_some}
use Rattle.std.specs.FinMap as map
use Rattle.ids_base.specs.RowIds.{page_of}
use Rattle.row_codec.specs.Catalogue.{Entry, entry_of}
use Rattle.ids_model.specs.Tables.{Shape, Name, Table, shape_of}
use Rattle.ids_model.specs.Slots.{Bytes, Own, Slots, own_at, slot_at}
use Rattle.ids_model.specs.Stands.{catalogue, CatalogueRow}
use Rattle.ids_model.proofs.Holding.{catalogue_moves}
use Rattle.fast_recovery.specs.declared.catalogue.Catalogue.{Catalogue}
use Rattle.fast_recovery.specs.BrokenRows.{IsBrokenRow, no_table_said, number_repeated, name_repeated, no_owner}
use Rattle.fast_recovery.specs.CatalogueRead.{CatalogueRead}

-- a row in a page without an owner
pub row_unowned : (own : Own) (slots : Slots) (slot : ℕ) (bytes : Bytes) → slot_at slots slot ≡ Some bytes → own_at own (page_of slot) ≡ None → IsBrokenRow own slots slot
row_unowned own slots slot bytes at none = no_owner (record { bytes = bytes; stored = at; unowned = none })

-- a row that says no table
pub row_unsaid : (own : Own) (slots : Slots) (slot : ℕ) (bytes : Bytes)
    → slot_at slots slot ≡ Some bytes → own_at own (page_of slot) ≡ Some catalogue → entry_of bytes ≡ None → IsBrokenRow own slots slot
row_unsaid own slots slot bytes at owned none = no_table_said (record { bytes = bytes; holds = record { owned = owned; stored = at }; says = none })

some_shape : (o : Option Table) → is_some o ≡ true → (s : Shape) × (shape_of o ≡ Some s)
some_shape None is = cc
some_shape (Some t) is = (t.shape, refl)

some_name : (o : Option Name) → is_some o ≡ true → (n : Name) × (o ≡ Some n)
some_name None is = cc
some_name (Some n) is = (n, refl)

module _ (own : Own) (slots : Slots) (rest : List (ℕ × Bytes)) (c : Catalogue) (slot : ℕ) (bytes : Bytes) (r : CatalogueRead own slots ((slot, bytes) ∷ rest) c) where
  -- what was read of the catalogue is in it, with a lesser row id
  before : (q i : ℕ) (m : Name) (s : Shape) → CatalogueRow r.read_pages r.read_rows q i m s → CatalogueRow own slots q i m s
  before q i m s = catalogue_moves r.read_pages own r.read_rows slots q i m s (λ b h. record { owned = (r.of_pages (page_of q) catalogue h.owned).0; stored = (r.of_rows q b h.stored).0 })

  lesser : (q i : ℕ) (m : Name) (s : Shape) → CatalogueRow r.read_pages r.read_rows q i m s → q < slot
  lesser q i m s d = let at = r.of_rows q d.bytes d.holds.stored in r.rest_is.3 q d.bytes at.0 at.1

  module _ (e : Entry) (says : entry_of bytes ≡ Some e) (owned : own_at own (page_of slot) ≡ Some catalogue) where
    this : CatalogueRow own slots slot e.number e.name e.shape
    this = record { bytes = bytes; holds = record { owned = owned; stored = r.rest_is.0 }; says = says }

    -- a name that is there already
    pub name_twice : is_some (map.get c.tables e.name) ≡ true → IsBrokenRow own slots slot
    name_twice is =
        let shape = some_shape (map.get c.tables e.name) is in
        let old = r.stands.stands.tables e.name shape.0 shape.1 in
        name_repeated (record {
          lesser = old.1.slot;
          number = e.number;
          earlier_number = old.0;
          name = e.name;
          shape = e.shape;
          earlier_shape = shape.0;
          this = this;
          earlier = before old.1.slot old.0 e.name shape.0 old.1.row;
          less = lesser old.1.slot old.0 e.name shape.0 old.1.row;
        })

    -- a number that is there already
    pub number_twice : is_some (map.get c.names e.number) ≡ true → IsBrokenRow own slots slot
    number_twice is =
        let name = some_name (map.get c.names e.number) is in
        let old = r.names.said e.number name.0 name.1 in
        number_repeated (record {
          lesser = old.1.slot;
          number = e.number;
          name = e.name;
          earlier_name = name.0;
          shape = e.shape;
          earlier_shape = old.0;
          this = this;
          earlier = before old.1.slot e.number name.0 old.0 old.1.row;
          less = lesser old.1.slot e.number name.0 old.0 old.1.row;
        })
