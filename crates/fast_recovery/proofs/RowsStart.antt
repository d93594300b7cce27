-- Before any row but those of the catalogue is read.
use Rattle.std.proofs.Common.{◌≡◌, ℕ, true, refl, ap, ◌∙◌, [], Some, inl}
use Rattle.std.specs.FinMap as map
use Rattle.ids_base.specs.RowIds.{page_of}
use Rattle.ids_model.specs.Tables.{Tables}
use Rattle.ids_model.specs.Slots.{Bytes, Own, Slots, own_at}
use Rattle.ids_model.specs.Stands.{catalogue, Holds, MayOwn}
use Rattle.ids_model.specs.Logged.{StandsWhole}
use Rattle.ids_model.proofs.Holding.{one_owner}
use Rattle.ids_model.proofs.OwningPages.{catalogue_goes, named_goes, row_goes, in_goes}
use Rattle.fast_recovery.specs.declared.catalogue.Catalogue.{Catalogue}
use Rattle.fast_recovery.specs.Reading.{may_own}
use Rattle.fast_recovery.specs.CatalogueRead.{CatalogueRead}
use Rattle.fast_recovery.specs.RowsRead.{RowsRead}
use Rattle.fast_recovery.proofs.CatalogueWhole.{from_read, pages_may}
use Rattle.fast_recovery.proofs.EntriesInOrder.{all_entries, none_read}

-- more pages with owners that they may have leave what rows stand for
pub more_pages : (few own : Own) (P : Slots) (T : Tables) → StandsWhole few P T
    → ((page : ℕ) (owner : ℕ × ℕ) → own_at few page ≡ Some owner → own_at own page ≡ Some owner)
    → ((page : ℕ) (owner : ℕ × ℕ) → own_at own page ≡ Some owner → MayOwn few P owner)
    → StandsWhole own P T
more_pages few own P T it more may = record {
  whole = record {
    owned = λ slot bytes at. let o = it.whole.owned slot bytes at in (o.0, more (page_of slot) o.0 o.1);
    pages = λ p o is. let m = may p o is in record { first = m.first; others = λ name shape c. m.others name shape (named_goes own few P from o.0 name shape c) };
    entries = λ slot bytes h. it.whole.entries slot bytes (from slot catalogue bytes h);
    numbers = λ p q number m n s t a b. it.whole.numbers p q number m n s t (catalogue_goes own few P from p number m s a) (catalogue_goes own few P from q number n t b);
    names = λ p q i j name s t a b. it.whole.names p q i j name s t (catalogue_goes own few P from p i name s a) (catalogue_goes own few P from q j name t b);
    rows = λ slot o bytes h other.
        let r = it.whole.rows slot o bytes (from slot o bytes h) other in
        record { name = r.name; shape = r.shape; named = named_goes few own P to o.0 r.name r.shape r.named; row = r.row; says = r.says };
    keys = λ p q number name shape k row other c a b.
        it.whole.keys p q number name shape k row other (named_goes own few P from number name shape c) (row_goes own few P from p number shape k row a) (row_goes own few P from q number shape k other b);
  };
  stands = record {
    shapes = λ number name shape c. it.stands.shapes number name shape (named_goes own few P from number name shape c);
    tables = λ name shape is. let c = it.stands.tables name shape is in (c.0, named_goes few own P to c.0 name shape c.1);
    rows = λ number name shape c k row r. it.stands.rows number name shape (named_goes own few P from number name shape c) k row (in_goes own few P from number shape k row r);
    held = λ number name shape c k row e. in_goes few own P to number shape k row (it.stands.held number name shape (named_goes own few P from number name shape c) k row e);
  };
}
  where
    to : (slot : ℕ) (o : ℕ × ℕ) (bytes : Bytes) → Holds few P slot o bytes → Holds own P slot o bytes
    to slot o bytes h = record { owned = more (page_of slot) o h.owned; stored = h.stored }

    from : (slot : ℕ) (o : ℕ × ℕ) (bytes : Bytes) → Holds own P slot o bytes → Holds few P slot o bytes
    from slot o bytes h =
        let was = it.whole.owned slot bytes h.stored in
        record { owned = was.1 ∙ ap (λ (x : ℕ × ℕ). Some x) (one_owner own (page_of slot) was.0 o (more (page_of slot) was.0 was.1) h.owned); stored = h.stored }

pub rows_start : (own : Own) (slots : Slots) (c : Catalogue) → CatalogueRead own slots [] c
    → ((page : ℕ) (owner : ℕ × ℕ) → own_at own page ≡ Some owner → may_own c.tables c.names owner ≡ true)
    → RowsRead own slots (map.entries slots) c.tables
rows_start own slots c r may = record {
  rest_is = all_entries slots;
  read_rows = r.read_rows;
  of_rows = λ slot bytes at. (r.of_rows slot bytes at).0;
  fresh = λ slot bytes at.
      let o = r.stands.whole.owned slot bytes at in
      let same = r.of_pages (page_of slot) o.0 o.1 in
      inl (same.0 ∙ ap (λ (x : ℕ × ℕ). Some x) same.1);
  first = λ slot bytes h. r.all slot bytes h refl;
  all = λ slot bytes at read. absurd (none_read slots slot bytes at read);
  stands = more_pages r.read_pages own r.read_rows c.tables r.stands (λ page owner is. (r.of_pages page owner is).0) (λ page owner is.
      let m = pages_may own slots c r owner (may page owner is) in
      record { first = m.first; others = λ name shape d. m.others name shape (from_read own slots c r owner.0 name shape d) });
}
