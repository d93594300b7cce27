-- The catalogue after all rows were read, and the pages that it allows.
use Rattle.std.proofs.Common.{◌≡◌, ℕ, ◌==◌, true, false, Bool, refl, ap, sym, ◌∙◌, subst, [], Option, Some, None, arith}
use Rattle.std.specs.Prelude.{if◌then◌else◌, option_and_then}
use Rattle.std.specs.FinMap as map
use Rattle.std.proofs.lemmas.Bool.{eqb-true, eqb-false}
use Rattle.ids_base.specs.RowIds.{row_number, page_of}
use Rattle.ids_base.specs.Shapes.{row_length}
use Rattle.ids_model.specs.Tables.{Shape, Name, shape_at}
use Rattle.ids_model.specs.Slots.{Bytes, Own, Slots, own_at}
use Rattle.ids_model.specs.Stands.{Holds, CatalogueRow, IsCatalogued, MayOwn, catalogue}
use Rattle.ids_model.proofs.Holding.{catalogue_moves, other_than_first}
use Rattle.fast_recovery.specs.declared.catalogue.Catalogue.{Catalogue}
use Rattle.fast_recovery.specs.BrokenRows.{BeginsPage, HasShape, IsBrokenRow, odd_catalogue, odd_page}
use Rattle.fast_recovery.specs.Reading.{AreNames, HaveGoodShapes, has_length, may_own}
use Rattle.fast_recovery.specs.CatalogueRead.{CatalogueRead}
use Rattle.fast_recovery.proofs.GoodShapes.{good_catalogued}

-- slot 1 of a page is in it
page_of_first : (page : ℕ) → page_of (row_number page 1) ≡ page
page_of_first page = omega arith

module _ (own : Own) (slots : Slots) (c : Catalogue) (r : CatalogueRead own slots [] c) where
  row_read : (q i : ℕ) (m : Name) (s : Shape) → CatalogueRow own slots q i m s → CatalogueRow r.read_pages r.read_rows q i m s
  row_read q i m s = catalogue_moves own r.read_pages slots r.read_rows q i m s holds
    where
      holds : (b : Bytes) → Holds own slots q catalogue b → Holds r.read_pages r.read_rows q catalogue b
      holds b h =
          let stored = r.all q b h refl in
          let o = r.stands.whole.owned q b stored in
          record { owned = o.1 ∙ ap (λ (x : ℕ × ℕ). Some x) (r.of_pages (page_of q) o.0 o.1).1; stored = stored }

  pub to_read : (i : ℕ) (m : Name) (s : Shape) → IsCatalogued own slots i m s → IsCatalogued r.read_pages r.read_rows i m s
  to_read i m s d = record { slot = d.slot; row = row_read d.slot i m s d.row }

  pub from_read : (i : ℕ) (m : Name) (s : Shape) → IsCatalogued r.read_pages r.read_rows i m s → IsCatalogued own slots i m s
  from_read i m s d = record {
    slot = d.slot;
    row = catalogue_moves r.read_pages own r.read_rows slots d.slot i m s (λ b h. record { owned = (r.of_pages (page_of d.slot) catalogue h.owned).0; stored = (r.of_rows d.slot b h.stored).0 }) d.row;
  }

  pub are_names : AreNames own slots c.names
  are_names = record {
    said = λ number name is. let d = r.names.said number name is in (d.0, from_read number name d.0 d.1);
    all = λ number name shape d. r.names.all number name shape (to_read number name shape d);
  }

  pub good_shapes : HaveGoodShapes c.tables
  good_shapes name shape is = let d = r.stands.stands.tables name shape is in good_catalogued r.read_pages r.read_rows d.0 name shape d.1

  shape_now : (i : ℕ) (m : Name) (s : Shape) → IsCatalogued own slots i m s → shape_at c.tables m ≡ Some s
  shape_now i m s d = r.stands.stands.shapes i m s (to_read i m s d)

  -- what the catalogue allows is what pages may have
  allowed : (o : ℕ × ℕ) (b : Bool) → (o.0 == 1) ≡ b → (if b then o.1 == 359 else has_length o.1 (option_and_then (shape_at c.tables) (map.get c.names o.0))) ≡ true → MayOwn own slots o
  allowed o true one is =
      let number : o.0 ≡ 1 = eqb-true o.0 1 one in
      let length : o.1 ≡ 359 = eqb-true o.1 359 is in
      record { first = λ e i. (number i, length i); others = λ name shape d. absurd (other_than_first own slots o.0 name shape d number) }
  allowed o false other is = record {
    first = λ e. absurd (eqb-false o.0 1 other e);
    others = λ name shape d.
        let shapes : option_and_then (shape_at c.tables) (map.get c.names o.0) ≡ Some shape =
        ap (option_and_then (shape_at c.tables)) (are_names.all o.0 name shape d) ∙ shape_now o.0 name shape d in
        let length : (row_length shape == o.1) ≡ true = sym (ap (has_length o.1) shapes) ∙ is in
        λ i. (o.0, sym (eqb-true (row_length shape) o.1 length) i);
  }

  pub pages_may : (o : ℕ × ℕ) → may_own c.tables c.names o ≡ true → MayOwn own slots o
  pages_may o is = allowed o (o.0 == 1) refl is

  -- a row of the catalogue is the first of its number, since it is the only one
  the_shape : (i : ℕ) (m : Name) (s : Shape) → IsCatalogued own slots i m s → HasShape own slots i s
  the_shape i m s d = record {
    slot = d.slot;
    name = m;
    row = d.row;
    first = λ q n t e.
        let same : q ≡ d.slot = r.stands.whole.numbers q d.slot i n m t s (row_read q i n t e) (row_read d.slot i m s d.row) in
        omega arith;
  }

  -- slot 1 of a page that may not have its owner
  module _ (page : ℕ) (o : ℕ × ℕ) (owned : own_at own page ≡ Some o) where
    begins : BeginsPage own (row_number page 1) o
    begins = record {
      slot = ap (λ (p : ℕ). row_number p 1) (sym (page_of_first page));
      owned = ap (own_at own) (page_of_first page) ∙ owned;
    }

    broken : (b : Bool) → (o.0 == 1) ≡ b → (if b then o.1 == 359 else has_length o.1 (option_and_then (shape_at c.tables) (map.get c.names o.0))) ≡ false → IsBrokenRow own slots (row_number page 1)
    broken true one is = odd_catalogue (record {
      length = o.1;
      begins = subst (λ (n : ℕ). BeginsPage own (row_number page 1) (n, o.1)) (eqb-true o.0 1 one) begins;
      other = eqb-false o.1 359 is;
    })
    broken false other is = inside (map.get c.names o.0) refl
      where
        inside : (n : Option Name) → map.get c.names o.0 ≡ n → IsBrokenRow own slots (row_number page 1)
        inside None none = let never : true ≡ false = sym (ap (λ (x : Option Name). has_length o.1 (option_and_then (shape_at c.tables) x)) none) ∙ is in cc
        inside (Some name) named =
            let d = are_names.said o.0 name named in
            let shapes : option_and_then (shape_at c.tables) (map.get c.names o.0) ≡ Some d.0 =
            ap (option_and_then (shape_at c.tables)) named ∙ shape_now o.0 name d.0 d.1 in
            let length : (row_length d.0 == o.1) ≡ false = sym (ap (has_length o.1) shapes) ∙ is in
            odd_page (record {
              number = o.0;
              length = o.1;
              shape = d.0;
              begins = begins;
              named = the_shape o.0 name d.0 d.1;
              other = λ same. eqb-false (row_length d.0) o.1 length (sym same);
            })

    pub page_broken : may_own c.tables c.names o ≡ false → IsBrokenRow own slots (row_number page 1)
    page_broken not = broken (o.0 == 1) refl not
