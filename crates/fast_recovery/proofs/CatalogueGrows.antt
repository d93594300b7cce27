-- The catalogue goes on by a row.
use Rattle.std.proofs.Common.{◌≡◌, ℕ, ◌≤◌, max, true, false, Bool, cond, ◌==◌, refl, ap, sym, ◌∙◌, subst, List, ◌∷◌, Option, Some, None, ◌⊎◌, inl, inr, arith}
use Rattle.std.specs.FinMap as map
use Rattle.std.specs.FinMap.{get-insert}
use Rattle.std.specs.Cmp.{unsigned_tied, nat_cmp_total}
use Rattle.std.proofs.lemmas.Bool.{eqb-true, eq-eqb}
use Rattle.ids_base.specs.Orders.{names_total}
use Rattle.ids_base.specs.RowIds.{page_of}
use Rattle.row_codec.specs.Catalogue.{Entry, entry_of}
use Rattle.ids_model.specs.declared.effect.Effect.TheVariants.{NewTable}
use Rattle.ids_model.specs.Tables.{Shape, Name, shape_at, apply}
use Rattle.ids_model.specs.Slots.{Bytes, Own, Slots, own_at, slot_at, set_own, set_slot}
use Rattle.ids_model.specs.Stands.{catalogue, Holds, CatalogueRow, IsCatalogued}
use Rattle.ids_model.specs.Logged.{IsFreeFor, AddsTable}
use Rattle.ids_model.proofs.EffectsStand.{new_tables_stand}
use Rattle.ids_model.proofs.Holding.{none_some, catalogue_moves, one_owner, one_bytes, one_entry, not_first}
use Rattle.ids_model.proofs.Lookups.{same_table, one_name}
use Rattle.ids_model.proofs.OwningPages.{page_keeps, page_gives}
use Rattle.ids_model.proofs.RowChanges.{table_itself}
use Rattle.ids_model.proofs.Setting.{own_here, own_elsewhere, slot_here, slot_elsewhere, same_or_not}
use Rattle.fast_recovery.specs.declared.catalogue.Catalogue.{Catalogue}
use Rattle.fast_recovery.specs.Found.{Numbers}
use Rattle.fast_recovery.specs.Reading.{Names, IsRead}
use Rattle.fast_recovery.specs.CatalogueRead.{CatalogueRead}
use Rattle.fast_recovery.proofs.EntriesInOrder.{not_here, not_later, not_at_all}

-- a row in a page of another owner is passed over
pub row_passed : (own : Own) (slots : Slots) (rest : List (ℕ × Bytes)) (c : Catalogue) (slot : ℕ) (bytes : Bytes) (owner : ℕ × ℕ)
    → own_at own (page_of slot) ≡ Some owner → (owner ≡ catalogue → ⊥) → CatalogueRead own slots ((slot, bytes) ∷ rest) c → CatalogueRead own slots rest c
row_passed own slots rest c slot bytes owner is other r = record {
  rest_is = r.rest_is.2;
  read_pages = r.read_pages;
  read_rows = r.read_rows;
  of_pages = r.of_pages;
  of_rows = λ q b at. ((r.of_rows q b at).0, not_later (slot, bytes) rest q (r.of_rows q b at).1);
  all = λ q b h read. r.all q b h (not_at_all (slot, bytes) rest q read (λ same. other (one_owner own (page_of slot) owner catalogue is (sym (ap (λ (x : ℕ). own_at own (page_of x)) same) ∙ h.owned))));
  stands = r.stands;
  names = r.names;
  numbers = r.numbers;
  least = r.least;
  greatest = r.greatest;
}

get_number : (m : Names) (k : ℕ) (v : Name) (q : ℕ) → map.get (map.insert m k v) q ≡ cond (q == k) (Some v) (map.get m q)
get_number m k v q = get-insert nat_cmp_total m k v q ∙ ap (λ b. cond b (Some v) (map.get m q)) (unsigned_tied q k)

get_name : (m : Numbers) (k : Name) (v : ℕ) (q : Name) → map.get (map.insert m k v) q ≡ cond (same_table q k) (Some v) (map.get m q)
get_name m k v q = get-insert names_total m k v q

-- the catalogue with one more table
abbrev pub with_table : Catalogue → Entry → Catalogue
with_table c e = record {
  tables = apply c.tables (NewTable e.name e.shape);
  numbers = map.insert c.numbers e.name e.number;
  names = map.insert c.names e.number e.name;
  greatest = max c.greatest e.number;
}

module _ (own : Own) (slots : Slots) (rest : List (ℕ × Bytes)) (c : Catalogue) (slot : ℕ) (bytes : Bytes) (r : CatalogueRead own slots ((slot, bytes) ∷ rest) c) where
  abbrev P : Slots
  P = r.read_rows

  -- the slot of the row is still empty
  pub unread : slot_at P slot ≡ None
  unread = inside (slot_at P slot) refl
    where
      inside : (o : Option Bytes) → slot_at P slot ≡ o → slot_at P slot ≡ None
      inside None is = is
      inside (Some b) is = absurd (not_here (slot, bytes) rest slot (r.of_rows slot b is).1 refl)

  -- and its page is one of the catalogue or none
  free : IsFreeFor r.read_pages (page_of slot) catalogue
  free = inside (own_at r.read_pages (page_of slot)) refl
    where
      inside : (o : Option (ℕ × ℕ)) → own_at r.read_pages (page_of slot) ≡ o → IsFreeFor r.read_pages (page_of slot) catalogue
      inside None is = inl is
      inside (Some o) is = inr (is ∙ ap (λ (x : ℕ × ℕ). Some x) (r.of_pages (page_of slot) o is).1)

  module _ (e : Entry) (says : entry_of bytes ≡ Some e) (owned : own_at own (page_of slot) ≡ Some catalogue) (absent : shape_at c.tables e.name ≡ None) (unused : map.get c.names e.number ≡ None) where
    abbrev pages : Own
    pages = set_own r.read_pages (page_of slot) catalogue

    abbrev Q : Slots
    Q = set_slot P slot (Some bytes)

    adds : AddsTable r.read_pages P c.tables slot bytes e.name e.shape
    adds = record {
      number = e.number;
      says = says;
      page = free;
      stood = unread;
      absent = absent;
      unowned = λ page length is. not_first bytes e says (ap (λ (x : ℕ × ℕ). x.0) (r.of_pages page (e.number, length) is).1);
      unused = λ name s d. none_some name (sym unused ∙ r.names.all e.number name s d);
    }

    to : (q : ℕ) (b : Bytes) → Holds r.read_pages P q catalogue b → Holds pages Q q catalogue b
    to q b h = record {
      owned = (page_keeps r.read_pages P (page_of slot) catalogue free q catalogue b h).owned;
      stored = slot_elsewhere P slot (Some bytes) q (λ same. none_some b (sym unread ∙ sym (ap (slot_at P) same) ∙ h.stored)) ∙ h.stored;
    }

    from : (q : ℕ) (b : Bytes) → (q ≡ slot → ⊥) → Holds pages Q q catalogue b → Holds r.read_pages P q catalogue b
    from q b there h =
        page_gives r.read_pages P (page_of slot) catalogue r.stands.whole free q catalogue b
        (record { owned = h.owned; stored = sym (slot_elsewhere P slot (Some bytes) q there) ∙ h.stored })

    new_row : CatalogueRow pages Q slot e.number e.name e.shape
    new_row = record { bytes = bytes; holds = record { owned = own_here r.read_pages (page_of slot) catalogue; stored = slot_here P slot (Some bytes) }; says = says }

    named_to : (i : ℕ) (m : Name) (s : Shape) → IsCatalogued r.read_pages P i m s → IsCatalogued pages Q i m s
    named_to i m s d = record { slot = d.slot; row = catalogue_moves r.read_pages pages P Q d.slot i m s (to d.slot) d.row }

    named_from : (i : ℕ) (m : Name) (s : Shape) → IsCatalogued pages Q i m s → IsCatalogued r.read_pages P i m s ⊎ ((i ≡ e.number) × (m ≡ e.name) × (s ≡ e.shape))
    named_from i m s d = inside (same_or_not d.slot slot)
      where
        inside : (d.slot ≡ slot) ⊎ (d.slot ≡ slot → ⊥) → IsCatalogued r.read_pages P i m s ⊎ ((i ≡ e.number) × (m ≡ e.name) × (s ≡ e.shape))
        inside (inl here) = inr (one_entry pages Q slot i e.number m e.name s e.shape (subst (λ (x : ℕ). CatalogueRow pages Q x i m s) here d.row) new_row)
        inside (inr there) = inl (record { slot = d.slot; row = catalogue_moves pages r.read_pages Q P d.slot i m s (λ b h. from d.slot b there h) d.row })

    -- the new names
    said : (i : ℕ) (m : Name) → map.get (map.insert c.names e.number e.name) i ≡ Some m → (s : Shape) × IsCatalogued pages Q i m s
    said i m is = inside (i == e.number) refl (sym (get_number c.names e.number e.name i) ∙ is)
      where
        inside : (b : Bool) → (i == e.number) ≡ b → cond b (Some e.name) (map.get c.names i) ≡ Some m → (s : Shape) × IsCatalogued pages Q i m s
        inside true same at =
            let name : e.name ≡ m = cc in
            let number : i ≡ e.number = eqb-true i e.number same in
            (e.shape, record { slot = slot; row = subst (λ (x : Name). CatalogueRow pages Q slot i x e.shape) name (subst (λ (x : ℕ). CatalogueRow pages Q slot x e.name e.shape) (sym number) new_row) })
        inside false other at = let old = r.names.said i m at in (old.0, named_to i m old.0 old.1)

    named : (i : ℕ) (m : Name) (s : Shape) → IsCatalogued r.read_pages P i m s ⊎ ((i ≡ e.number) × (m ≡ e.name) × (s ≡ e.shape)) → map.get (map.insert c.names e.number e.name) i ≡ Some m
    named i m s (inl old) = get_number c.names e.number e.name i ∙ inside (i == e.number) refl
      where
        is : map.get c.names i ≡ Some m
        is = r.names.all i m s old

        inside : (b : Bool) → (i == e.number) ≡ b → cond b (Some e.name) (map.get c.names i) ≡ Some m
        inside true same = absurd (none_some m (sym unused ∙ sym (ap (map.get c.names) (eqb-true i e.number same)) ∙ is))
        inside false other = is
    named i m s (inr new) =
        get_number c.names e.number e.name i
        ∙ ap (λ b. cond b (Some e.name) (map.get c.names i)) (eq-eqb i e.number new.0)
        ∙ sym (ap (λ (x : Name). Some x) new.1)

    numbered : (i : ℕ) (m : Name) (s : Shape) → IsCatalogued r.read_pages P i m s ⊎ ((i ≡ e.number) × (m ≡ e.name) × (s ≡ e.shape)) → map.get (map.insert c.numbers e.name e.number) m ≡ Some i
    numbered i m s (inl old) = get_name c.numbers e.name e.number m ∙ inside (same_table m e.name) refl
      where
        inside : (b : Bool) → same_table m e.name ≡ b → cond b (Some e.number) (map.get c.numbers m) ≡ Some i
        inside true same = absurd (none_some s (sym absent ∙ sym (ap (shape_at c.tables) (one_name m e.name same)) ∙ r.stands.stands.shapes i m s old))
        inside false other = r.numbers i m s old
    numbered i m s (inr new) =
        ap (map.get (map.insert c.numbers e.name e.number)) new.1
        ∙ get_name c.numbers e.name e.number e.name
        ∙ ap (λ b. cond b (Some e.number) (map.get c.numbers e.name)) (table_itself e.name)
        ∙ sym (ap (λ (x : ℕ). Some x) new.0)

    greatest : (i : ℕ) (m : Name) (s : Shape) → IsCatalogued r.read_pages P i m s ⊎ ((i ≡ e.number) × (m ≡ e.name) × (s ≡ e.shape)) → i ≤ max c.greatest e.number
    greatest i m s (inl old) = let below : i ≤ c.greatest = r.greatest i m s old in omega arith
    greatest i m s (inr new) = let same : i ≡ e.number = new.0 in omega arith

    pub row_added : CatalogueRead own slots rest (with_table c e)
    row_added = record {
      rest_is = r.rest_is.2;
      read_pages = pages;
      read_rows = Q;
      of_pages = λ page owner is. of_pages page owner is (same_or_not page (page_of slot));
      of_rows = λ q b at. of_rows q b at (same_or_not q slot);
      all = λ q b h read. all q b h read (same_or_not q slot);
      stands = new_tables_stand r.read_pages P c.tables slot bytes e.name e.shape r.stands adds;
      names = record { said = said; all = λ i m s d. named i m s (named_from i m s d) };
      numbers = λ i m s d. numbered i m s (named_from i m s d);
      least = let below : 99 ≤ c.greatest = r.least in omega arith;
      greatest = λ i m s d. greatest i m s (named_from i m s d);
    }
      where
        of_pages : (page : ℕ) (owner : ℕ × ℕ) → own_at pages page ≡ Some owner → (page ≡ page_of slot) ⊎ (page ≡ page_of slot → ⊥) → (own_at own page ≡ Some owner) × (owner ≡ catalogue)
        of_pages page owner is (inl here) =
            let same : owner ≡ catalogue = one_owner pages page owner catalogue is (ap (own_at pages) here ∙ own_here r.read_pages (page_of slot) catalogue) in
            (ap (own_at own) here ∙ owned ∙ sym (ap (λ (x : ℕ × ℕ). Some x) same), same)
        of_pages page owner is (inr there) = r.of_pages page owner (sym (own_elsewhere r.read_pages (page_of slot) catalogue page there) ∙ is)

        of_rows : (q : ℕ) (b : Bytes) → slot_at Q q ≡ Some b → (q ≡ slot) ⊎ (q ≡ slot → ⊥) → (slot_at slots q ≡ Some b) × IsRead rest q
        of_rows q b at (inl here) =
            let same : b ≡ bytes = one_bytes Q slot b bytes (sym (ap (slot_at Q) here) ∙ at) (slot_here P slot (Some bytes)) in
            (ap (slot_at slots) here ∙ r.rest_is.0 ∙ sym (ap (λ (x : Bytes). Some x) same), subst (IsRead rest) (sym here) r.rest_is.1)
        of_rows q b at (inr there) =
            let old = r.of_rows q b (sym (slot_elsewhere P slot (Some bytes) q there) ∙ at) in
            (old.0, not_later (slot, bytes) rest q old.1)

        all : (q : ℕ) (b : Bytes) → Holds own slots q catalogue b → IsRead rest q → (q ≡ slot) ⊎ (q ≡ slot → ⊥) → slot_at Q q ≡ Some b
        all q b h read (inl here) =
            ap (slot_at Q) here ∙ slot_here P slot (Some bytes)
            ∙ ap (λ (x : Bytes). Some x) (one_bytes slots slot bytes b r.rest_is.0 (sym (ap (slot_at slots) here) ∙ h.stored))
        all q b h read (inr there) = slot_elsewhere P slot (Some bytes) q there ∙ r.all q b h (not_at_all (slot, bytes) rest q read there)
