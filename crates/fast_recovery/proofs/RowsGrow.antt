-- The rows of tables go on by a row.
use Rattle.std.proofs.Common.{◌≡◌, ℕ, refl, ap, sym, ◌∙◌, subst, List, [], ◌∷◌, Option, Some, None, ◌⊎◌, inl, inr}
use Rattle.std.specs.FinMap as map
use Rattle.ids_base.specs.RowIds.{page_of}
use Rattle.ids_model.specs.declared.effect.Effect.{Effect}
use Rattle.ids_model.specs.declared.effect.Effect.TheVariants.{Change}
use Rattle.ids_model.specs.Tables.{Shape, Name, Tables, apply}
use Rattle.ids_model.specs.Slots.{Bytes, Own, Slots, own_at, slot_at, set_slot}
use Rattle.ids_model.specs.Stands.{catalogue, owner_of, Holds, CatalogueRow, IsCatalogued}
use Rattle.ids_model.specs.Logged.{StandsWhole}
use Rattle.ids_model.proofs.Holding.{none_some, some_same, catalogue_moves, one_owner, one_bytes}
use Rattle.ids_model.proofs.RowChanges.{row_changes}
use Rattle.ids_model.proofs.Setting.{slot_here, slot_elsewhere, same_or_not, same_slots}
use Rattle.fast_recovery.specs.Reading.{Names, AreNames, IsRead}
use Rattle.fast_recovery.specs.RowsRead.{RowsRead, IsNewRow}
use Rattle.fast_recovery.proofs.EntriesInOrder.{not_here, not_later, not_at_all}

module _ (own : Own) (slots : Slots) (rest : List (ℕ × Bytes)) (T : Tables) (slot : ℕ) (bytes : Bytes) (r : RowsRead own slots ((slot, bytes) ∷ rest) T) where
  abbrev P : Slots
  P = r.read_rows

  -- a row of the catalogue is passed over
  pub first_passed : (o : ℕ × ℕ) → own_at own (page_of slot) ≡ Some o → o.0 ≡ 1 → RowsRead own slots rest T
  first_passed o owned one = record {
    rest_is = r.rest_is.2;
    read_rows = P;
    of_rows = r.of_rows;
    fresh = λ q b at. elim (r.fresh q b at) [ inl is ↦ inl is | inr read ↦ inr (not_later (slot, bytes) rest q read) ];
    first = r.first;
    all = λ q b at read. all q b at read (same_or_not q slot);
    stands = r.stands;
  }
    where
      all : (q : ℕ) (b : Bytes) → slot_at slots q ≡ Some b → IsRead rest q → (q ≡ slot) ⊎ (q ≡ slot → ⊥) → slot_at P q ≡ Some b
      all q b at read (inl here) =
          let same : o ≡ catalogue = (r.stands.whole.pages (page_of slot) o owned).first one in
          r.first q b (record { owned = ap (λ (x : ℕ). own_at own (page_of x)) here ∙ owned ∙ ap (λ (x : ℕ × ℕ). Some x) same; stored = at })
      all q b at read (inr there) = r.all q b at (not_at_all (slot, bytes) rest q read there)

  module _ (o : ℕ × ℕ) (owned : own_at own (page_of slot) ≡ Some o) (other : o.0 ≡ 1 → ⊥) where
    -- the slot of the row is still empty
    unread : slot_at P slot ≡ None
    unread = inside (slot_at P slot) refl
      where
        at : (b : Bytes) → (own_at own (page_of slot) ≡ Some catalogue) ⊎ IsRead ((slot, bytes) ∷ rest) slot → ⊥
        at b (inl is) = other (ap (λ (x : ℕ × ℕ). x.0) (one_owner own (page_of slot) o catalogue owned is))
        at b (inr read) = not_here (slot, bytes) rest slot read refl

        inside : (v : Option Bytes) → slot_at P slot ≡ v → slot_at P slot ≡ None
        inside None is = is
        inside (Some b) is = absurd (at b (r.fresh slot b is))

    -- what is in the catalogue is in the part of it that was read
    pub row_read : (q i : ℕ) (m : Name) (s : Shape) → CatalogueRow own slots q i m s → CatalogueRow own P q i m s
    row_read q i m s = catalogue_moves own own slots P q i m s (λ b h. record { owned = h.owned; stored = r.first q b h })

    to_read : (i : ℕ) (m : Name) (s : Shape) → IsCatalogued own slots i m s → IsCatalogued own P i m s
    to_read i m s d = record { slot = d.slot; row = row_read d.slot i m s d.row }

    module _ (names : Names) (are : AreNames own slots names) (n : Name) (named : map.get names o.0 ≡ Some n) where
      -- the table of the row
      pub its_table : (s : Shape) × IsCatalogued own P o.0 n s
      its_table = let d = are.said o.0 n named in (d.0, to_read o.0 n d.0 d.1)

      pub row_put : (e : Effect) → IsNewRow T n bytes e → RowsRead own slots rest (apply T e)
      row_put e new = record {
        rest_is = r.rest_is.2;
        read_rows = Q;
        of_rows = λ q b at. of_rows q b at (same_or_not q slot);
        fresh = λ q b at. fresh q b at (same_or_not q slot);
        first = λ q b h. slot_elsewhere P slot (Some bytes) q (away q b h) ∙ r.first q b h;
        all = λ q b at read. all q b at read (same_or_not q slot);
        stands = subst (λ (x : Effect). StandsWhole own Q (apply T x)) (sym new.effect_is) stands;
      }
        where
          Q : Slots
          Q = set_slot P slot (Some bytes)

          shape : its_table.0 ≡ new.shape
          shape = some_same its_table.0 new.shape (sym (r.stands.stands.shapes o.0 n its_table.0 its_table.1) ∙ new.is_there)

          catalogued : IsCatalogued own P o.0 n new.shape
          catalogued = subst (λ (x : Shape). IsCatalogued own P o.0 n x) shape its_table.1

          page : own_at own (page_of slot) ≡ Some (owner_of o.0 new.shape)
          page = owned ∙ ap (λ (x : ℕ × ℕ). Some x) ((r.stands.whole.pages (page_of slot) o owned).others n new.shape catalogued)

          stands : StandsWhole own Q (apply T (Change n new.key None (Some new.row)))
          stands = row_changes own P T o.0 slot n new.shape None (Some bytes) new.key None (Some new.row) r.stands catalogued page unread tt (new.says, new.key_is) new.absent

          of_rows : (q : ℕ) (b : Bytes) → slot_at Q q ≡ Some b → (q ≡ slot) ⊎ (q ≡ slot → ⊥) → slot_at slots q ≡ Some b
          of_rows q b at (inl here) =
              ap (slot_at slots) here ∙ r.rest_is.0
              ∙ ap (λ (x : Bytes). Some x) (one_bytes Q slot bytes b (slot_here P slot (Some bytes)) (sym (ap (slot_at Q) here) ∙ at))
          of_rows q b at (inr there) = r.of_rows q b (sym (slot_elsewhere P slot (Some bytes) q there) ∙ at)

          fresh : (q : ℕ) (b : Bytes) → slot_at Q q ≡ Some b → (q ≡ slot) ⊎ (q ≡ slot → ⊥) → (own_at own (page_of q) ≡ Some catalogue) ⊎ IsRead rest q
          fresh q b at (inl here) = inr (subst (IsRead rest) (sym here) r.rest_is.1)
          fresh q b at (inr there) = elim (r.fresh q b (sym (slot_elsewhere P slot (Some bytes) q there) ∙ at)) [ inl is ↦ inl is | inr read ↦ inr (not_later (slot, bytes) rest q read) ]

          away : (q : ℕ) (b : Bytes) → Holds own slots q catalogue b → q ≡ slot → ⊥
          away q b h here = other (ap (λ (x : ℕ × ℕ). x.0) (one_owner own (page_of slot) o catalogue owned (sym (ap (λ (x : ℕ). own_at own (page_of x)) here) ∙ h.owned)))

          all : (q : ℕ) (b : Bytes) → slot_at slots q ≡ Some b → IsRead rest q → (q ≡ slot) ⊎ (q ≡ slot → ⊥) → slot_at Q q ≡ Some b
          all q b at read (inl here) =
              ap (slot_at Q) here ∙ slot_here P slot (Some bytes)
              ∙ ap (λ (x : Bytes). Some x) (one_bytes slots slot bytes b r.rest_is.0 (sym (ap (slot_at slots) here) ∙ at))
          all q b at read (inr there) = slot_elsewhere P slot (Some bytes) q there ∙ r.all q b at (not_at_all (slot, bytes) rest q read there)

-- after all rows the tables are those that the slots stand for
pub rows_stand : (own : Own) (slots : Slots) (T : Tables) → RowsRead own slots [] T → StandsWhole own slots T
rows_stand own slots T r = subst (λ (x : Slots). StandsWhole own x T) (same_slots r.read_rows slots (λ q. inside q (slot_at slots q) refl (slot_at r.read_rows q) refl)) r.stands
  where
    inside : (q : ℕ) (v : Option Bytes) → slot_at slots q ≡ v → (w : Option Bytes) → slot_at r.read_rows q ≡ w → slot_at r.read_rows q ≡ slot_at slots q
    inside q (Some b) at w is = r.all q b at refl ∙ sym at
    inside q None at None is = is ∙ sym at
    inside q None at (Some b) is = absurd (none_some b (sym at ∙ r.of_rows q b is))
