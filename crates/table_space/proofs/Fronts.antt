-- What stays known of the slots of pages where entries change.
use Rattle.std.proofs.Common.{zero, suc, replicate, slice_index_or, ◌≡◌, ◌≢◌, ℕ, ◌-◌, ◌≤◌, ◌<◌, Bool, true, false, not, ◌&&◌, ◌||◌, ◌==◌, refl, ap, sym, ◌∙◌, List, [], ◌∷◌, ◌++◌, length, max, cond, if◌then◌else◌, ◌⊎◌, inl, inr, arith}
use Rattle.std.specs.List.{filter, list_any}
use Rattle.std.proofs.lemmas.Bool.{and_parts, cases_Bool, eqb-true, eq-eqb, ne_eqb, cases_eq}
use Rattle.std.proofs.lemmas.List.{get_or-set_same, get_or-set_other}
use Rattle.std.proofs.Math.ListN.{set, length-set}
use Rattle.ids_base.specs.RowIds.{row_number}
use Rattle.ids_base.specs.declared.lock.Key.{Key}
use Rattle.ids_base.specs.LockNames.{is_same_key}
use Rattle.table_space.specs.declared.front.Front.{Front}
use Rattle.table_space.specs.declared.entry.Entry.{Entry}
use Rattle.table_space.specs.declared.entry.Held.{Held}
use Rattle.table_space.specs.declared.entry.Held.TheVariants.{Nowhere, Emptied, Filled}
use Rattle.table_space.specs.Entries.{is_in, is_at, is_nowhere, is_filled, is_gone_from, has_row, is_new, fills, stays, blocks}
use Rattle.table_space.specs.Noted.{put_first, changed, noted, made, has_entry_for}
use Rattle.table_space.specs.Seen.{Entries, Changes, Ends, IsBlocked, IsSame}
use Rattle.table_space.specs.Fronts.{IsFilled, IsTaken, HasNoEntry, AreTaken, IsFront, AreFronts}
use Rattle.table_space.specs.Reserves.{IsReserved}
use Rattle.table_space.specs.Slots.{reserves_for}
use Rattle.table_space.proofs.Keys.{keys_told, key_itself}

-- Of entries that are replaced.
pub put-none : (p test : Entry → Bool) (new : Entry) → p new ≡ false → (es : List Entry) → list_any p es ≡ false → list_any p (put_first test new es) ≡ false
put-none p test new not_new [] none = none
put-none p test new not_new (e ∷ es) none = at (test e) (p e) refl none (put-none p test new not_new es)
  where
    at : (b c : Bool) → p e ≡ c → (c || list_any p es) ≡ false → (list_any p es ≡ false → list_any p (put_first test new es) ≡ false) → list_any p (if b then new ∷ es else e ∷ put_first test new es) ≡ false
    at b true is h more = cc
    at true false is h more = rw not_new h
    at false false is h more = rw is (more h)

pub put-keeps : (p test : Entry → Bool) (new : Entry) → ((e : Entry) → p e ≡ true → test e ≡ false) → (es : List Entry) → list_any p es ≡ true → list_any p (put_first test new es) ≡ true
put-keeps p test new apart [] some = some
put-keeps p test new apart (e ∷ es) some = at (test e) (p e) refl refl some (put-keeps p test new apart es)
  where
    or_right : (a b : Bool) → b ≡ true → (a || b) ≡ true
    or_right true b e = refl
    or_right false b e = e

    at : (b c : Bool) → test e ≡ b → p e ≡ c → (c || list_any p es) ≡ true → (list_any p es ≡ true → list_any p (put_first test new es) ≡ true) → list_any p (if b then new ∷ es else e ∷ put_first test new es) ≡ true
    at true true t is h more = absurd (let clash : true ≡ false = sym t ∙ apart e is in cc)
    at true false t is h more = or_right (p new) _ h
    at false true t is h more = rw is refl
    at false false t is h more = rw is (more h)

pub put-here : (p test : Entry → Bool) (new : Entry) → p new ≡ true → (es : List Entry) → list_any test es ≡ true → list_any p (put_first test new es) ≡ true
put-here p test new is_new' [] some = absurd (cc)
put-here p test new is_new' (e ∷ es) some = at (test e) some (put-here p test new is_new' es)
  where
    or_right : (a b : Bool) → b ≡ true → (a || b) ≡ true
    or_right true b e = refl
    or_right false b e = e

    at : (b : Bool) → (b || list_any test es) ≡ true → (list_any test es ≡ true → list_any p (put_first test new es) ≡ true) → list_any p (if b then new ∷ es else e ∷ put_first test new es) ≡ true
    at true h more = rw is_new' refl
    at false h more = or_right (p e) _ (more h)

-- What the tests of an entry tell of one another.
fills-held : (row other : ℕ) → other ≢ row → (h : Held) → is_in other h ≡ true → is_at row h ≡ false
fills-held row other ne Nowhere is = refl
fills-held row other ne (Emptied held) is = absurd (cc)
fills-held row other ne (Filled held) is = ne_eqb held row (λ e. ne (sym (eqb-true held other is) ∙ e))

fills-not_new : (row : ℕ) (h : Held) → is_in row h ≡ true → is_nowhere h ≡ false
fills-not_new row Nowhere is = absurd (cc)
fills-not_new row (Emptied held) is = refl
fills-not_new row (Filled held) is = refl

has-held : (row other : ℕ) → other ≢ row → (h : Held) → is_at other h ≡ true → is_at row h ≡ false
has-held row other ne Nowhere is = refl
has-held row other ne (Emptied held) is = ne_eqb held row (λ e. ne (sym (eqb-true held other is) ∙ e))
has-held row other ne (Filled held) is = ne_eqb held row (λ e. ne (sym (eqb-true held other is) ∙ e))

has-not_new : (row : ℕ) (h : Held) → is_at row h ≡ true → is_nowhere h ≡ false
has-not_new row Nowhere is = absurd (cc)
has-not_new row (Emptied held) is = refl
has-not_new row (Filled held) is = refl

-- what blocks a slot for a transaction has it, and outlives the end of the transaction
blocks-has : (row : ℕ) (h : Held) (b : Bool) → (is_in row h || (is_gone_from row h && b)) ≡ true → is_at row h ≡ true
blocks-has row Nowhere b is = absurd (cc)
blocks-has row (Emptied held) b is = (and_parts (held == row) b is).0
blocks-has row (Filled held) b is = at (held == row) is
  where
    at : (c : Bool) → (c || (false && b)) ≡ true → c ≡ true
    at true h = refl
    at false h = absurd (cc)

blocks-stays : (row : ℕ) (h : Held) (b : Bool) → (is_in row h || (is_gone_from row h && b)) ≡ true → (is_filled h || b) ≡ true
blocks-stays row Nowhere b is = absurd (cc)
blocks-stays row (Emptied held) b is = (and_parts (held == row) b is).1
blocks-stays row (Filled held) b is = refl

-- an entry that has a slot blocks it for a transaction, or reserves it for that one
has-either : (row tx : ℕ) (e : Entry) → has_row row e ≡ true → (blocks row tx e || reserves_for tx row e) ≡ true
has-either row tx e is = at e.held (e.tx == tx) is
  where
    at : (h : Held) (b : Bool) → is_at row h ≡ true → ((is_in row h || (is_gone_from row h && not b)) || (is_gone_from row h && b)) ≡ true
    at Nowhere b is = absurd (cc)
    at (Emptied held) true is = rw is refl
    at (Emptied held) false is = rw is refl
    at (Filled held) b is = rw is refl

-- an entry that is changed reserves no slot but its own, and none where it is filled
changed-reserves : (row other : ℕ) (filled : Bool) (tx tx' : ℕ) → other ≢ row → reserves_for tx' other (changed row filled tx) ≡ false
changed-reserves row other true tx tx' ne = refl
changed-reserves row other false tx tx' ne = rw (ne_eqb row other (λ e. ne (sym e))) refl

fills-stays : (row : ℕ) (h : Held) (b : Bool) → is_in row h ≡ true → (is_filled h || b) ≡ true
fills-stays row Nowhere b is = absurd (cc)
fills-stays row (Emptied held) b is = absurd (cc)
fills-stays row (Filled held) b is = refl

fills-blocks : (row : ℕ) (h : Held) (b : Bool) → is_in row h ≡ true → (is_in row h || b) ≡ true
fills-blocks row h b is = rw is refl

no_row-reserves : (row : ℕ) (h : Held) (b : Bool) → is_at row h ≡ false → (is_gone_from row h && b) ≡ false
no_row-reserves row Nowhere b none = refl
no_row-reserves row (Emptied held) b none = rw none refl
no_row-reserves row (Filled held) b none = refl

no_row-blocks : (row : ℕ) (h : Held) (b : Bool) → is_at row h ≡ false → (is_in row h || (is_gone_from row h && b)) ≡ false
no_row-blocks row Nowhere b none = refl
no_row-blocks row (Emptied held) b none = rw none refl
no_row-blocks row (Filled held) b none = rw none refl

changed-other : (row other : ℕ) (filled : Bool) (tx : ℕ) → other ≢ row → has_row other (changed row filled tx) ≡ false
changed-other row other true tx ne = ne_eqb row other (λ e. ne (sym e))
changed-other row other false tx ne = ne_eqb row other (λ e. ne (sym e))

any-along : (p q : Entry → Bool) → ((e : Entry) → p e ≡ true → q e ≡ true) → (es : List Entry) → list_any p es ≡ true → list_any q es ≡ true
any-along p q more [] some = some
any-along p q more (e ∷ es) some = at (p e) (q e) refl refl some (any-along p q more es)
  where
    at : (b c : Bool) → p e ≡ b → q e ≡ c → (b || list_any p es) ≡ true → (list_any p es ≡ true → list_any q es ≡ true) → (c || list_any q es) ≡ true
    at b true pe qe h f = refl
    at true false pe qe h f = absurd (let clash : true ≡ false = sym (more e pe) ∙ qe in cc)
    at false false pe qe h f = f h

none-along : (p q : Entry → Bool) → ((e : Entry) → p e ≡ false → q e ≡ false) → (es : List Entry) → list_any p es ≡ false → list_any q es ≡ false
none-along p q less [] none = none
none-along p q less (e ∷ es) none = at (p e) refl none (none-along p q less es)
  where
    at : (b : Bool) → p e ≡ b → (b || list_any p es) ≡ false → (list_any p es ≡ false → list_any q es ≡ false) → (q e || list_any q es) ≡ false
    at true pe h f = absurd (cc)
    at false pe h f = rw (less e pe) (f h)

any-filtered : (p test : Entry → Bool) → ((e : Entry) → p e ≡ true → test e ≡ true) → (es : List Entry) → list_any p es ≡ true → list_any p (filter test es) ≡ true
any-filtered p test stay [] some = some
any-filtered p test stay (e ∷ es) some = at (p e) (test e) refl refl some (any-filtered p test stay es)
  where
    at : (b c : Bool) → p e ≡ b → test e ≡ c → (b || list_any p es) ≡ true → (list_any p es ≡ true → list_any p (filter test es) ≡ true) → list_any p (cond c (e ∷ filter test es) (filter test es)) ≡ true
    at true true pe te h f = rw pe refl
    at true false pe te h f = absurd (let clash : true ≡ false = sym (stay e pe) ∙ te in cc)
    at false true pe te h f = rw pe (f h)
    at false false pe te h f = f h

none-filtered : (p test : Entry → Bool) (es : List Entry) → list_any p es ≡ false → list_any p (filter test es) ≡ false
none-filtered p test [] none = none
none-filtered p test (e ∷ es) none = at (p e) (test e) refl none (none-filtered p test es)
  where
    at : (b c : Bool) → p e ≡ b → (b || list_any p es) ≡ false → (list_any p es ≡ false → list_any p (filter test es) ≡ false) → list_any p (cond c (e ∷ filter test es) (filter test es)) ≡ false
    at true c pe h f = absurd (cc)
    at false true pe h f = rw pe (f h)
    at false false pe h f = f h

any-pushed : (p : Entry → Bool) (new : Entry) (es : List Entry) → list_any p es ≡ true → list_any p (es ++ new ∷ []) ≡ true
any-pushed p new [] some = absurd (cc)
any-pushed p new (e ∷ es) some = at (p e) some (any-pushed p new es)
  where
    at : (b : Bool) → (b || list_any p es) ≡ true → (list_any p es ≡ true → list_any p (es ++ new ∷ []) ≡ true) → (b || list_any p (es ++ new ∷ [])) ≡ true
    at true h f = refl
    at false h f = f h

none-pushed : (p : Entry → Bool) (new : Entry) → p new ≡ false → (es : List Entry) → list_any p es ≡ false → list_any p (es ++ new ∷ []) ≡ false
none-pushed p new not_new [] none = rw not_new refl
none-pushed p new not_new (e ∷ es) none = at (p e) none (none-pushed p new not_new es)
  where
    at : (b : Bool) → (b || list_any p es) ≡ false → (list_any p es ≡ false → list_any p (es ++ new ∷ []) ≡ false) → (b || list_any p (es ++ new ∷ [])) ≡ false
    at true h f = absurd (cc)
    at false h f = f h

filtered-had : (p test : Entry → Bool) (es : List Entry) → list_any p (filter test es) ≡ true → list_any p es ≡ true
filtered-had p test es some = had (list_any p es) refl
  where
    had : (b : Bool) → list_any p es ≡ b → b ≡ true
    had true is = refl
    had false is = absurd (let clash : true ≡ false = sym some ∙ none-filtered p test es is in cc)

pushed-had : (p : Entry → Bool) (new : Entry) → p new ≡ false → (es : List Entry) → list_any p (es ++ new ∷ []) ≡ true → list_any p es ≡ true
pushed-had p new not_new es some = had (list_any p es) refl
  where
    had : (b : Bool) → list_any p es ≡ b → b ≡ true
    had true is = refl
    had false is = absurd (let clash : true ≡ false = sym some ∙ none-pushed p new not_new es is in cc)

-- Of the entries of a key that are noted.
noted-none : (row other : ℕ) (filled : Bool) (tx : ℕ) (es : List Entry) → other ≢ row → list_any (has_row other) es ≡ false → list_any (has_row other) (noted row filled tx es) ≡ false
noted-none row other filled tx es ne none = put-none (has_row other) _ (changed row filled tx) (changed-other row other filled tx ne) es none

noted-keeps : (p : Entry → Bool) (row : ℕ) (filled : Bool) (tx : ℕ) (es : List Entry) → ((e : Entry) → p e ≡ true → has_row row e ≡ false) → ((e : Entry) → p e ≡ true → is_new e ≡ false) → list_any p es ≡ true → list_any p (noted row filled tx es) ≡ true
noted-keeps p row filled tx es apart not_new some = at (list_any (has_row row) es)
  where
    at : (b : Bool) → list_any p (put_first (if b then has_row row else is_new) (changed row filled tx) es) ≡ true
    at true = put-keeps p (has_row row) (changed row filled tx) apart es some
    at false = put-keeps p is_new (changed row filled tx) not_new es some

noted-had : (p : Entry → Bool) (row : ℕ) (filled : Bool) (tx : ℕ) (es : List Entry) → p (changed row filled tx) ≡ false → list_any p (noted row filled tx es) ≡ true → list_any p es ≡ true
noted-had p row filled tx es not_new some = had (list_any p es) refl
  where
    had : (b : Bool) → list_any p es ≡ b → b ≡ true
    had true is = refl
    had false is = absurd (let clash : true ≡ false = sym some ∙ put-none p _ (changed row filled tx) not_new es is in cc)

noted-has : (row tx : ℕ) (filled : Bool) (es : List Entry) → has_entry_for row filled es ≡ true → list_any (has_row row) (noted row filled tx es) ≡ true
noted-has row tx filled es some = at (list_any (has_row row) es) refl some
  where
    itself : (f : Bool) → has_row row (changed row f tx) ≡ true
    itself true = eq-eqb row row refl
    itself false = eq-eqb row row refl

    at : (b : Bool) → list_any (has_row row) es ≡ b → (b || (filled && list_any is_new es)) ≡ true → list_any (has_row row) (put_first (if b then has_row row else is_new) (changed row filled tx) es) ≡ true
    at true is h = put-here (has_row row) (has_row row) (changed row filled tx) (itself filled) es is
    at false is h = put-here (has_row row) is_new (changed row filled tx) (itself filled) es (and_parts filled _ h).1

noted-fills : (row tx : ℕ) (es : List Entry) → has_entry_for row true es ≡ true → list_any (fills row) (noted row true tx es) ≡ true
noted-fills row tx es some = at (list_any (has_row row) es) refl some
  where
    itself : fills row (changed row true tx) ≡ true
    itself = eq-eqb row row refl

    at : (b : Bool) → list_any (has_row row) es ≡ b → (b || (true && list_any is_new es)) ≡ true → list_any (fills row) (put_first (if b then has_row row else is_new) (changed row true tx) es) ≡ true
    at true is h = put-here (fills row) (has_row row) (changed row true tx) itself es is
    at false is h = put-here (fills row) is_new (changed row true tx) itself es h

-- A key is the one that changed, or has its entries.
either : {was now : Entries} {t : ℕ} {k : Key} {es : List Entry} → Changes was now t k es → (t' : ℕ) (k' : Key) → ((now t' k' ≡ es) × (was t' k' ≡ was t k)) ⊎ (now t' k' ≡ was t' k')
either {was = was} {now = now} {t = t} {k = k} {es = es} c t' k' = elim (cases_eq t' t) [
  | inr other ↦ inr (c.beside t' k' (λ p. other p.0))
  | inl same ↦ elim (cases_Bool (is_same_key k' k)) [
    | inl told ↦ let key : k' ≡ k = keys_told k' k told in
        inl ((λ i. now (same i) (key i)) ∙ c.here, (λ i. was (same i) (key i)))
    | inr differs ↦ inr (c.beside t' k' (λ p. (let clash : true ≡ false = sym (ap (λ x. is_same_key x k) p.1 ∙ key_itself k) ∙ differs in cc)))
  ]
]

-- Whether a slot is filled, or is taken, or has no entry stays, where entries change; and it is reserved only where it was.
pub record Stays (was now : Entries) (row : ℕ) : Type 0 where
  pub filled : IsFilled was row → IsFilled now row
  pub taken : IsTaken was row → IsTaken now row
  pub none : HasNoEntry was row → HasNoEntry now row
  pub reserved : (tx : ℕ) → IsReserved now row tx → IsReserved was row tx

pub noted-reserved : {was now : Entries} {t : ℕ} {k : Key} (row : ℕ) (filled : Bool) (tx other : ℕ) → Changes was now t k (noted row filled tx (was t k)) → ((tx' : ℕ) → reserves_for tx' other (changed row filled tx) ≡ false)
    → (tx' : ℕ) → IsReserved now other tx' → IsReserved was other tx'
noted-reserved {was = was} {now = now} {t = t} {k = k} row filled tx other c none tx' f = record {
  table = f.table;
  key = f.key;
  by = elim (either c f.table f.key) [
    | inl e ↦ ap (list_any (reserves_for tx' other)) e.1 ∙ noted-had (reserves_for tx' other) row filled tx (was t k) (none tx') (ap (list_any (reserves_for tx' other)) (sym e.0) ∙ f.by)
    | inr e ↦ ap (list_any (reserves_for tx' other)) (sym e) ∙ f.by
  ];
}

pub noted-stays : {was now : Entries} {t : ℕ} {k : Key} (row : ℕ) (filled : Bool) (tx : ℕ) → Changes was now t k (noted row filled tx (was t k)) → (other : ℕ) → other ≢ row → Stays was now other
noted-stays {was = was} {now = now} {t = t} {k = k} row filled tx c other ne = record {
  filled = λ f. record {
    table = f.table;
    key = f.key;
    by = elim (either c f.table f.key) [
      | inl e ↦ rw e.0 (noted-keeps (fills other) row filled tx (was t k) (λ x is. fills-held row other ne x.held is) (λ x is. fills-not_new other x.held is) (ap (list_any (fills other)) (sym e.1) ∙ f.by))
      | inr e ↦ rw e f.by
    ];
  };
  taken = λ f. record {
    table = f.table;
    key = f.key;
    by = elim (either c f.table f.key) [
      | inl e ↦ rw e.0 (noted-keeps (has_row other) row filled tx (was t k) (λ x is. has-held row other ne x.held is) (λ x is. has-not_new other x.held is) (ap (list_any (has_row other)) (sym e.1) ∙ f.by))
      | inr e ↦ rw e f.by
    ];
  };
  reserved = noted-reserved row filled tx other c (λ tx'. changed-reserves row other filled tx tx' ne);
  none = λ f t' k'. elim (either c t' k') [
    | inl e ↦ rw e.0 (noted-none row other filled tx (was t k) ne (f t k))
    | inr e ↦ rw e (f t' k')
  ];
}

pub noted-filled : {was now : Entries} {t : ℕ} {k : Key} (row tx : ℕ) → Changes was now t k (noted row true tx (was t k)) → has_entry_for row true (was t k) ≡ true → IsFilled now row
noted-filled {was = was} {t = t} {k = k} row tx c some = record { table = t; key = k; by = rw c.here (noted-fills row tx (was t k) some) }

-- the slot that is noted is taken
pub noted-taken : {was now : Entries} {t : ℕ} {k : Key} (row tx : ℕ) (filled : Bool) → Changes was now t k (noted row filled tx (was t k)) → has_entry_for row filled (was t k) ≡ true → IsTaken now row
noted-taken {was = was} {t = t} {k = k} row tx filled c some = record { table = t; key = k; by = rw c.here (noted-has row tx filled (was t k) some) }

pub entered-stays : {was now : Entries} {t : ℕ} {k : Key} (tx : ℕ) → Changes was now t k (was t k ++ made tx ∷ []) → (row : ℕ) → Stays was now row
entered-stays {was = was} {t = t} {k = k} tx c row = record {
  filled = λ f. record {
    table = f.table;
    key = f.key;
    by = elim (either c f.table f.key) [
      | inl e ↦ rw e.0 (any-pushed (fills row) (made tx) (was t k) (ap (list_any (fills row)) (sym e.1) ∙ f.by))
      | inr e ↦ rw e f.by
    ];
  };
  taken = λ f. record {
    table = f.table;
    key = f.key;
    by = elim (either c f.table f.key) [
      | inl e ↦ rw e.0 (any-pushed (has_row row) (made tx) (was t k) (ap (list_any (has_row row)) (sym e.1) ∙ f.by))
      | inr e ↦ rw e f.by
    ];
  };
  reserved = λ tx' f. record {
    table = f.table;
    key = f.key;
    by = elim (either c f.table f.key) [
      | inl e ↦ ap (list_any (reserves_for tx' row)) e.1 ∙ pushed-had (reserves_for tx' row) (made tx) refl (was t k) (ap (list_any (reserves_for tx' row)) (sym e.0) ∙ f.by)
      | inr e ↦ ap (list_any (reserves_for tx' row)) (sym e) ∙ f.by
    ];
  };
  none = λ f t' k'. elim (either c t' k') [
    | inl e ↦ rw e.0 (none-pushed (has_row row) (made tx) refl (was t k) (f t k))
    | inr e ↦ rw e (f t' k')
  ];
}

pub same-stays : {was now : Entries} → IsSame was now → (row : ℕ) → Stays was now row
same-stays same row = record {
  filled = λ f. record { table = f.table; key = f.key; by = rw (same f.table f.key) f.by };
  taken = λ f. record { table = f.table; key = f.key; by = rw (same f.table f.key) f.by };
  none = λ f t k. rw (same t k) (f t k);
  reserved = λ tx f. record { table = f.table; key = f.key; by = ap (list_any (reserves_for tx row)) (sym (same f.table f.key)) ∙ f.by };
}

-- The same at the end of a transaction, but that a slot which it alone has is taken no longer.
pub ended-none : (was now : Entries) (tx : ℕ) → Ends was now tx → (row : ℕ) → HasNoEntry was row → HasNoEntry now row
ended-none was now tx ends row f = λ t k. rw (ends t k) (none-filtered (has_row row) (stays tx) (was t k) (f t k))

module _ {was now : Entries} (tx : ℕ) (ends : Ends was now tx) (row : ℕ) where
  pub ended-filled : IsFilled was row → IsFilled now row
  ended-filled f = record { table = f.table; key = f.key; by = rw (ends f.table f.key) (any-filtered (fills row) (stays tx) (λ e is. fills-stays row e.held _ is) (was f.table f.key) f.by) }

  pub ended-taken : IsBlocked was row tx → IsTaken now row
  ended-taken f = record {
    table = f.table;
    key = f.key;
    by = rw (ends f.table f.key)
        (any-along (blocks row tx) (has_row row) (λ e is. blocks-has row e.held _ is) (filter (stays tx) (was f.table f.key))
        (any-filtered (blocks row tx) (stays tx) (λ e is. blocks-stays row e.held _ is) (was f.table f.key) f.by));
  }

  pub ended-reserved : (tx' : ℕ) → IsReserved now row tx' → IsReserved was row tx'
  ended-reserved tx' f = record {
    table = f.table;
    key = f.key;
    by = filtered-had (reserves_for tx' row) (stays tx) (was f.table f.key) (ap (list_any (reserves_for tx' row)) (sym (ends f.table f.key)) ∙ f.by);
  }

-- What is known of pages stays with it.
pub fronts-stay : {was now : Entries} (fs : List Front) → ((row : ℕ) → Stays was now row) → AreFronts was fs → AreFronts now fs
fronts-stay fs stay known = λ page d low high. let f = known page d low high in record {
  taken = λ slot some last small. (stay (row_number page slot)).taken (f.taken slot some last small);
  used = λ slot above small. (stay (row_number page slot)).none (f.used slot above small);
}

-- The slots of a page where one of them was noted.
pub page-noted : {was now : Entries} (page slot : ℕ) (f new : Front) → slot < 256 → ((other : ℕ) → other ≢ row_number page slot → Stays was now other) → IsFront was page f → AreTaken now page new.taken → new.used ≡ max f.used slot → IsFront now page new
page-noted page slot f new small stay known taken used = record {
  taken = taken;
  used = λ s above fits. let ne : row_number page s ≢ row_number page slot = omega arith in (stay (row_number page s) ne).none (known.used s (omega arith) fits);
}

-- those that were taken are so, where one of them was noted
pub page-kept : {was now : Entries} (page slot : ℕ) (f : Front) → slot < 256 → ((other : ℕ) → other ≢ row_number page slot → Stays was now other) → IsFront was page f → IsTaken now (row_number page slot) → AreTaken now page f.taken
page-kept page slot f small stay known here = λ s some last fits. elim (cases_eq s slot) [
  | inl same ↦ rw same here
  | inr other ↦ let ne : row_number page s ≢ row_number page slot = omega arith in (stay (row_number page s) ne).taken (known.taken s some last fits)
]

-- all pages, where a slot of one of them was noted
pub fronts-noted : {was now : Entries} (fs : List Front) (page slot : ℕ) (new : Front) → 1 ≤ page → page ≤ length fs → slot < 256 → ((other : ℕ) → other ≢ row_number page slot → Stays was now other) → AreFronts was fs → IsFront now page new → AreFronts now (set fs (page - 1) new)
fronts-noted fs page slot new low high small stay known here = λ p d first last. elim (cases_eq p page) [
  | inl same ↦
      let lt : page - 1 < length fs = omega arith in
      rw (same, get_or-set_same) here
  | inr other ↦
      let apart : p - 1 ≢ page - 1 = omega arith in
      let within : p ≤ length fs = omega (arith, last, length-set fs (page - 1) new) in
      let f = known p d first within in
      rw get_or-set_other (record {
        taken = λ s some top fits. let ne : row_number p s ≢ row_number page slot = omega arith in (stay (row_number p s) ne).taken (f.taken s some top fits);
        used = λ s above fits. let ne : row_number p s ≢ row_number page slot = omega arith in (stay (row_number p s) ne).none (f.used s above fits);
      })
]

-- A slot that is filled is blocked, one that is taken is so or reserved for the transaction, and one without an entry is not.
pub filled-blocked : {entries : Entries} (row tx : ℕ) → IsFilled entries row → IsBlocked entries row tx
filled-blocked {entries = entries} row tx f = record { table = f.table; key = f.key; by = any-along (fills row) (blocks row tx) (λ e is. fills-blocks row e.held _ is) (entries f.table f.key) f.by }

any-either : (p q r : Entry → Bool) → ((e : Entry) → p e ≡ true → (q e || r e) ≡ true) → (es : List Entry) → list_any p es ≡ true → (list_any q es ≡ true) ⊎ (list_any r es ≡ true)
any-either p q r each [] some = absurd (cc)
any-either p q r each (e ∷ es) some = at (p e) (q e) (r e) refl refl refl some (any-either p q r each es)
  where
    or_right : (a b : Bool) → b ≡ true → (a || b) ≡ true
    or_right true b e = refl
    or_right false b e = e

    at : (a b c : Bool) → p e ≡ a → q e ≡ b → r e ≡ c → (a || list_any p es) ≡ true → (list_any p es ≡ true → (list_any q es ≡ true) ⊎ (list_any r es ≡ true)) → ((b || list_any q es) ≡ true) ⊎ ((c || list_any r es) ≡ true)
    at a true c pe qe re h f = inl refl
    at a false true pe qe re h f = inr refl
    at true false false pe qe re h f = absurd (let clash : true ≡ false = sym (each e pe) ∙ ap (λ b. b || r e) qe ∙ re in cc)
    at false false false pe qe re h f = f h

pub taken-blocked : {entries : Entries} (row tx : ℕ) → IsTaken entries row → (IsReserved entries row tx → IsFilled entries row) → IsBlocked entries row tx
taken-blocked {entries = entries} row tx f kept = elim (any-either (has_row row) (blocks row tx) (reserves_for tx row) (has-either row tx) (entries f.table f.key) f.by) [
  | inl is ↦ record { table = f.table; key = f.key; by = is }
  | inr is ↦ filled-blocked row tx (kept (record { table = f.table; key = f.key; by = is }))
]

-- no slot without an entry is reserved
pub unused-kept : {entries : Entries} (row tx : ℕ) → HasNoEntry entries row → IsReserved entries row tx → ⊥
unused-kept {entries = entries} row tx none f = let not_reserved : list_any (reserves_for tx row) (entries f.table f.key) ≡ false = none-along (has_row row) (reserves_for tx row) (λ e is. no_row-reserves row e.held _ is) (entries f.table f.key) (none f.table f.key) in
    let clash : true ≡ false = sym f.by ∙ not_reserved in cc

pub unused-free : {entries : Entries} (row tx : ℕ) → HasNoEntry entries row → IsBlocked entries row tx → ⊥
unused-free {entries = entries} row tx none b = let not_blocked : list_any (blocks row tx) (entries b.table b.key) ≡ false = none-along (has_row row) (blocks row tx) (λ e is. no_row-blocks row e.held _ is) (entries b.table b.key) (none b.table b.key) in
    let clash : true ≡ false = sym b.by ∙ not_blocked in cc

-- A ledger's note, at the number of its row.
module _ {was now : Entries} {t : ℕ} {k : Key} (page slot number : ℕ) (is : number ≡ row_number page slot) (tx : ℕ) where
  pub row-stays : (filled : Bool) → Changes was now t k (noted number filled tx (was t k)) → (other : ℕ) → other ≢ row_number page slot → Stays was now other
  row-stays filled c other ne = noted-stays number filled tx c other (λ e. ne (e ∙ is))

  pub row-taken : (filled : Bool) → Changes was now t k (noted number filled tx (was t k)) → has_entry_for (row_number page slot) filled (was t k) ≡ true → IsTaken now (row_number page slot)
  row-taken filled c some = rw (← is) (noted-taken number tx filled c (rw (← is) at some))

  -- what was filled is so, where the slot is filled
  pub row-filled-stays : (filled : Bool) → filled ≡ true → Changes was now t k (noted number filled tx (was t k)) → has_entry_for (row_number page slot) filled (was t k) ≡ true → (row : ℕ) → IsFilled was row → IsFilled now row
  row-filled-stays filled on c some row = elim (cases_eq row (row_number page slot)) [
    | inl same ↦ λ f. rw same (rw (← is) (noted-filled number tx (rw on at c) (rw (on, ← is) at some)))
    | inr other ↦ (row-stays filled c row other).filled
  ]

-- At the start no slot has an entry.
pub fronts-new : {entries : Entries} (fs : List Front) (n : ℕ) (f : Front) → fs ≡ replicate n f → f.taken ≡ 0 → ((t : ℕ) (k : Key) → entries t k ≡ []) → AreFronts entries fs
fronts-new {entries = entries} fs n f is none empty = λ page d low high.
    let size : length fs ≡ n = ap length is ∙ length-all n in
    let at : slice_index_or fs (page - 1) d ≡ f = ap (λ (xs : List Front). slice_index_or xs (page - 1) d) is ∙ at-all n (page - 1) d (omega arith) in
    rw at (record {
      taken = λ slot some last small. absurd (omega arith);
      used = λ slot above small t k. rw (empty t k) refl;
    })
  where
    length-all : (m : ℕ) → length (replicate m f) ≡ m
    length-all zero = refl
    length-all (suc m) = ap (λ k. suc k) (length-all m)

    at-all : (m i : ℕ) (d : Front) → i < m → slice_index_or (replicate m f) i d ≡ f
    at-all zero i d lt = absurd (omega arith)
    at-all (suc m) zero d lt = refl
    at-all (suc m) (suc i) d lt = at-all m i d (omega arith)
