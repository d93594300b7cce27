-- What a directory keeps where the entries under one number change.
use Rattle.std.proofs.Common.{◌≡◌, ◌≢◌, ℕ, zero, suc, ◌<◌, Bool, true, false, ◌||◌, refl, ap, sym, ◌∙◌, subst, List, [], ◌∷◌, ◌++◌, length, set, Option, Some, None, arith, inl, inr, slice_index, get_or-set_same, get_or-set_other, length-append}
use Rattle.std.proofs.Common.{Result, Ok, Err, OnErr}
use Rattle.std.proofs.Math.ListN.{length-set}
use Rattle.std.specs.List.{slice_get, list_any}
use Rattle.std.specs.Int.{bit_at}
use Rattle.std.proofs.lemmas.Option.{slice_get_within}
use Rattle.std.proofs.lemmas.Bool.{cases_lt, cases_eq}
use Rattle.ids_base.specs.declared.lock.Key.{Key}
use Rattle.table_space.specs.declared.entry.Entry.{Entry}
use Rattle.table_space.specs.declared.entry.Keyed.{Keyed}
use Rattle.table_space.specs.Numbers.{Numbers, number_of, entries_in, entries_under}
use Rattle.table_space.specs.Indexed.{AreMarks, IsOf, IsIndexed}
use Rattle.table_space.specs.Seen.{Changes, IsSame}
use Rattle.std.proofs.lemmas.List.{set-get_or}
use Rattle.table_space.proofs.Naming.{Puts, puts-other, named-others, named-kept, named-own}

-- Elements of a list that is written or pushed to.
pub slot-same : (ls : List Keyed) (n : ℕ) (l : Keyed) → n < length ls → slice_get (set ls n l) n ≡ Some l
slot-same [] n l lt = absurd (omega arith)
slot-same (x ∷ ls) zero l lt = refl
slot-same (x ∷ ls) (suc n) l lt = slot-same ls n l (omega arith)

pub slot-other : (ls : List Keyed) (n j : ℕ) (l : Keyed) → j ≢ n → slice_get (set ls n l) j ≡ slice_get ls j
slot-other [] n j l ne = refl
slot-other (x ∷ ls) zero zero l ne = absurd (ne refl)
slot-other (x ∷ ls) zero (suc j) l ne = refl
slot-other (x ∷ ls) (suc n) zero l ne = refl
slot-other (x ∷ ls) (suc n) (suc j) l ne = slot-other ls n j l (λ e. ne (ap (λ k. suc k) e))

slot-before : (ls : List Keyed) (j : ℕ) (l : Keyed) → j < length ls → slice_get (ls ++ l ∷ []) j ≡ slice_get ls j
slot-before [] j l lt = absurd (omega arith)
slot-before (x ∷ ls) zero l lt = refl
slot-before (x ∷ ls) (suc j) l lt = slot-before ls j l (omega arith)

pub slot-last : (ls : List Keyed) (l : Keyed) → slice_get (ls ++ l ∷ []) (length ls) ≡ Some l
slot-last [] l = refl
slot-last (x ∷ ls) l = slot-last ls l

pub bits-apart : (b : ℕ) → b ≡ 1 → b ≡ 0 → ⊥
bits-apart b one none = omega arith

nothing : (es : List Entry) → length es ≡ 0 → es ≡ []
nothing [] e = refl
nothing (x ∷ es) e = absurd (omega arith)

-- there is one
pub slot-there : (ls : List Keyed) (n : ℕ) → n < length ls → (l : Keyed) × (slice_get ls n ≡ Some l)
slot-there [] n lt = absurd (omega arith)
slot-there (x ∷ ls) zero lt = (x, refl)
slot-there (x ∷ ls) (suc n) lt = slot-there ls n (omega arith)

-- a test that some entries pass
any-slot : (p : Entry → Bool) (ls : List Keyed) → list_any (λ l. list_any p l.entries.items) ls ≡ true → (n : ℕ) × (l : Keyed) × (slice_get ls n ≡ Some l) × (list_any p l.entries.items ≡ true)
any-slot p [] h = absurd (cc)
any-slot p (x ∷ ls) h = at (list_any p x.entries.items) refl h (any-slot p ls)
  where
    at : (b : Bool) → list_any p x.entries.items ≡ b → (b || list_any (λ l. list_any p l.entries.items) ls) ≡ true
        → (list_any (λ l. list_any p l.entries.items) ls ≡ true → (n : ℕ) × (l : Keyed) × (slice_get ls n ≡ Some l) × (list_any p l.entries.items ≡ true))
        → (n : ℕ) × (l : Keyed) × (slice_get (x ∷ ls) n ≡ Some l) × (list_any p l.entries.items ≡ true)
    at true is h more = (zero, x, refl, is)
    at false is h more = let r = more h in (suc r.0, r.1, r.2, r.3)

or_right : (a b : Bool) → b ≡ true → (a || b) ≡ true
or_right true b e = refl
or_right false b e = e

slot-any : (p : Entry → Bool) (ls : List Keyed) (n : ℕ) → list_any p (entries_in (slice_get ls n)) ≡ true → list_any (λ l. list_any p l.entries.items) ls ≡ true
slot-any p [] n h = absurd (cc)
slot-any p (x ∷ ls) zero h = rw h refl
slot-any p (x ∷ ls) (suc n) h = or_right (list_any p x.entries.items) _ (slot-any p ls n h)

pub seen-any : (ls : List Keyed) (p : Entry → Bool) (o : Option ℕ) → list_any p (entries_under ls o) ≡ true → list_any (λ l. list_any p l.entries.items) ls ≡ true
seen-any ls p None h = absurd (cc)
seen-any ls p (Some n) h = slot-any p ls n h

any-some : (p : Entry → Bool) (es : List Entry) → list_any p es ≡ true → es ≢ []
any-some p [] h e = cc
any-some p (x ∷ es) h e = cc

module _ {numbers : Numbers} {ls : List Keyed} {marks : List ℕ} (is : IsIndexed numbers ls marks) where
  pub number-within : (t : ℕ) (k : Key) (n : ℕ) → number_of numbers t k ≡ Some n → n < length ls
  number-within t k n e = (is.here t k n e).within

  pub number-key : (t : ℕ) (k : Key) (n : ℕ) (l : Keyed) → number_of numbers t k ≡ Some n → slice_get ls n ≡ Some l → IsOf l t k
  number-key t k n l e at = (is.here t k n e).of l at

  -- two keys have two numbers
  pub numbers-apart : (t : ℕ) (k : Key) (t' : ℕ) (k' : Key) (n : ℕ) → number_of numbers t k ≡ Some n → number_of numbers t' k' ≡ Some n → (t' ≡ t) × (k' ≡ k)
  numbers-apart t k t' k' n e e' =
      let l = slot-there ls n (number-within t k n e) in
      let p = number-key t k n l.0 e l.1 in
      let q = number-key t' k' n l.0 e' l.1 in
      (sym q.table_is ∙ p.table_is, sym q.key_is ∙ p.key_is)

  -- a free number is one of the list, and has no entries
  pub free-within : (n : ℕ) → bit_at (slice_index marks n) 63 ≡ 1 → n < length ls
  free-within n free = elim (cases_lt n (length ls)) [
    | inl lt ↦ lt
    | inr past ↦ absurd (bits-apart _ free (is.beyond n past))
  ]

  pub free-empty : (n : ℕ) → bit_at (slice_index marks n) 63 ≡ 1 → entries_in (slice_get ls n) ≡ []
  free-empty n free =
      let l = slot-there ls n (free-within n free) in
      ap entries_in l.1 ∙ nothing l.0.entries.items ((is.marked n l.0 l.1).free free)

  -- the entries under one number change, and only its key may get or lose it
  pub indexed-set : (now : Numbers) (n : ℕ) (l : Keyed) (m : ℕ) → n < length ls → AreMarks l.entries.items m
      → ((t : ℕ) (k : Key) (j : ℕ) → j ≢ n → number_of numbers t k ≡ Some j → number_of now t k ≡ Some j)
      → ((t : ℕ) (k : Key) (j : ℕ) → j ≢ n → number_of now t k ≡ Some j → number_of numbers t k ≡ Some j)
      → ((t : ℕ) (k : Key) → number_of now t k ≡ Some n → IsOf l t k)
      → (l.entries.items ≢ [] → number_of now l.table l.key ≡ Some n)
      → IsIndexed now (set ls n l) (set marks n m)
  indexed-set now n l m lt ms kept back here named = record {
    room = omega (arith, is.room, length-set ls n l, length-set marks n m);
    here = λ t k j e. elim (cases_eq j n) [
      | inl same ↦ record {
        within = omega (arith, same, lt, length-set ls n l);
        of = λ x at. let own : l ≡ x = let e : Some l ≡ Some x = sym (slot-same ls n l lt) ∙ ap (slice_get (set ls n l)) (sym same) ∙ at in cc in
            subst (λ (y : Keyed). IsOf y t k) own (here t k (rw same at e));
      }
      | inr other ↦
          let h = is.here t k j (back t k j other e) in
          record { within = omega (arith, h.within, length-set ls n l); of = λ x at. h.of x (sym (slot-other ls n j l other) ∙ at) }
    ];
    named = λ j x at some. elim (cases_eq j n) [
      | inl same ↦
          let own : l ≡ x = let e : Some l ≡ Some x = sym (slot-same ls n l lt) ∙ ap (slice_get (set ls n l)) (sym same) ∙ at in cc in
          subst (λ (y : Keyed). number_of now y.table y.key ≡ Some j) own (named (subst (λ (y : Keyed). y.entries.items ≢ []) (sym own) some) ∙ ap (λ i. Some i) (sym same))
      | inr other ↦ kept x.table x.key j other (is.named j x (sym (slot-other ls n j l other) ∙ at) some)
    ];
    marked = λ j x at. elim (cases_eq j n) [
      | inl same ↦
          let own : l ≡ x = let e : Some l ≡ Some x = sym (slot-same ls n l lt) ∙ ap (slice_get (set ls n l)) (sym same) ∙ at in cc in
          let inside : n < length marks = omega (arith, is.room) in
          rw (same, get_or-set_same marks n m 0 inside) (subst (λ (y : Keyed). AreMarks y.entries.items m) own ms)
      | inr other ↦ rw (get_or-set_other marks n j m 0 other) (is.marked j x (sym (slot-other ls n j l other) ∙ at))
    ];
    beyond = λ j past.
        let apart : j ≢ n = omega (arith, past, length-set ls n l) in
        rw (get_or-set_other marks n j m 0 apart) (is.beyond j (omega (arith, past, length-set ls n l)));
  }

  -- a number more, without entries
  pub indexed-push : (l : Keyed) (m : ℕ) → length ls < length marks → l.entries.items ≡ [] → AreMarks l.entries.items m → IsIndexed numbers (ls ++ l ∷ []) (set marks (length ls) m)
  indexed-push l m room empty ms = record {
    room = omega (arith, room, length-append ls (l ∷ []), length-set marks (length ls) m);
    here = λ t k j e.
        let h = is.here t k j e in
        record { within = omega (arith, h.within, length-append ls (l ∷ [])); of = λ x at. h.of x (sym (slot-before ls j l h.within) ∙ at) };
    named = λ j x at some. elim (cases_lt j (length ls)) [
      | inl lt ↦ is.named j x (sym (slot-before ls j l lt) ∙ at) some
      | inr past ↦
          let last : j ≡ length ls = omega (arith, past, slice_get_within (ls ++ l ∷ []) j x at, length-append ls (l ∷ [])) in
          let own : l ≡ x = let e : Some l ≡ Some x = sym (slot-last ls l) ∙ ap (slice_get (ls ++ l ∷ [])) (sym last) ∙ at in cc in
          absurd (some (ap (λ (y : Keyed). y.entries.items) (sym own) ∙ empty))
    ];
    marked = λ j x at. elim (cases_lt j (length ls)) [
      | inl lt ↦ let other : j ≢ length ls = omega arith in rw (get_or-set_other marks (length ls) j m 0 other) (is.marked j x (sym (slot-before ls j l lt) ∙ at))
      | inr past ↦
          let last : j ≡ length ls = omega (arith, past, slice_get_within (ls ++ l ∷ []) j x at, length-append ls (l ∷ [])) in
          let own : l ≡ x = let e : Some l ≡ Some x = sym (slot-last ls l) ∙ ap (slice_get (ls ++ l ∷ [])) (sym last) ∙ at in cc in
          rw (last, get_or-set_same marks (length ls) m 0 room) (subst (λ (y : Keyed). AreMarks y.entries.items m) own ms)
    ];
    beyond = λ j past.
        let apart : j ≢ length ls = omega (arith, past, length-append ls (l ∷ [])) in
        rw (get_or-set_other marks (length ls) j m 0 apart) (is.beyond j (omega (arith, past, length-append ls (l ∷ []))));
  }

  -- what the entries under a number are seen as
  pub seen-same : (now : Numbers) (n : ℕ) (l : Keyed) (t : ℕ) (k : Key) → n < length ls → number_of now t k ≡ Some n → entries_under (set ls n l) (number_of now t k) ≡ l.entries.items
  seen-same now n l t k lt e = ap (entries_under (set ls n l)) e ∙ ap entries_in (slot-same ls n l lt)

  pub seen-other : (n : ℕ) (l : Keyed) (o : Option ℕ) → o ≢ Some n → entries_under (set ls n l) o ≡ entries_under ls o
  seen-other n l None ne = refl
  seen-other n l (Some j) ne = ap entries_in (slot-other ls n j l (λ e. ne (ap (λ i. Some i) e)))

  -- the entries of a key that has a number change
  pub changes-set : (n : ℕ) (l : Keyed) (t : ℕ) (k : Key) → number_of numbers t k ≡ Some n
      → Changes (λ t' k'. entries_under ls (number_of numbers t' k')) (λ t' k'. entries_under (set ls n l) (number_of numbers t' k')) t k l.entries.items
  changes-set n l t k e = record {
    here = seen-same numbers n l t k (number-within t k n e) e;
    beside = λ t' k' other. seen-other n l (number_of numbers t' k') (λ e'. other (numbers-apart t k t' k' n e e'));
  }

  -- the entries of a key that has a number change, and are not nothing
  pub indexed-relist : (n : ℕ) (l new : Keyed) (m t : ℕ) (k : Key) → number_of numbers t k ≡ Some n → slice_get ls n ≡ Some l → new.table ≡ l.table → new.key ≡ l.key → new.entries.items ≢ [] → AreMarks new.entries.items m
      → IsIndexed numbers (set ls n new) (set marks n m)
  indexed-relist n l new m t k e at table key some ms =
      indexed-set numbers n new m (number-within t k n e) ms (λ t' k' j ne h. h) (λ t' k' j ne h. h)
      (λ t' k' e'. let p = number-key t' k' n l e' at in record { table_is = table ∙ p.table_is; key_is = key ∙ p.key_is; some = some })
      (λ _. let p = number-key t k n l e at in ap (λ (x : ℕ). number_of numbers x new.key) table ∙ ap (λ (x : Key). number_of numbers l.table x) key ∙ is.named n l at p.some)

  -- no key has a number without entries
  pub empty-unnamed : (n : ℕ) → entries_in (slice_get ls n) ≡ [] → (t : ℕ) (k : Key) → number_of numbers t k ≢ Some n
  empty-unnamed n empty t k e =
      let l = slot-there ls n (number-within t k n e) in
      (number-key t k n l.0 e l.1).some (sym (ap entries_in l.1) ∙ empty)

  -- an entry that passes is one of some key, and the other way round
  pub any-seen : (p : Entry → Bool) → list_any (λ l. list_any p l.entries.items) ls ≡ true → (t : ℕ) × (k : Key) × (list_any p (entries_under ls (number_of numbers t k)) ≡ true)
  any-seen p h =
      let f = any-slot p ls h in
      let own : number_of numbers f.1.table f.1.key ≡ Some f.0 = is.named f.0 f.1 f.2 (any-some p f.1.entries.items f.3) in
      (f.1.table, f.1.key, ap (λ (o : Option ℕ). list_any p (entries_under ls o)) own ∙ ap (λ (o : Option Keyed). list_any p (entries_in o)) f.2 ∙ f.3)

  -- the same key's entries, with another vector
  pub indexed-same : (n : ℕ) (l new : Keyed) (t : ℕ) (k : Key) → number_of numbers t k ≡ Some n → slice_get ls n ≡ Some l → new.table ≡ l.table → new.key ≡ l.key → new.entries.items ≡ l.entries.items → IsIndexed numbers (set ls n new) marks
  indexed-same n l new t k e at table key items =
      let p = number-key t k n l e at in
      subst (λ (ms : List ℕ). IsIndexed numbers (set ls n new) ms) (set-get_or marks n 0)
      (indexed-relist n l new (slice_index marks n) t k e at table key (λ none. p.some (sym items ∙ none)) (subst (λ (es : List Entry). AreMarks es (slice_index marks n)) (sym items) (is.marked n l at)))

  -- the first entries of a key, under a number that is free
  pub indexed-first : (now : Numbers) (n : ℕ) (l : Keyed) (m : ℕ) → n < length ls → entries_in (slice_get ls n) ≡ [] → number_of numbers l.table l.key ≡ None → Puts numbers now (l.table, l.key) (Some n) → number_of now l.table l.key ≡ Some n → l.entries.items ≢ [] → AreMarks l.entries.items m
      → IsIndexed now (set ls n l) (set marks n m)
  indexed-first now n l m lt empty none puts own some ms =
      indexed-set now n l m lt ms
      (λ t k j ne e. named-others numbers now (l.table, l.key) n puts none t k j e)
      (λ t k j ne e. named-kept numbers now (l.table, l.key) n puts t k j ne e)
      (λ t k e. let q = named-own numbers now (l.table, l.key) n puts (empty-unnamed n empty) t k e in record { table_is = q.0; key_is = q.1; some = some })
      (λ _. own)

  pub changes-first : (now : Numbers) (n : ℕ) (l : Keyed) → n < length ls → entries_in (slice_get ls n) ≡ [] → Puts numbers now (l.table, l.key) (Some n) → number_of now l.table l.key ≡ Some n
      → Changes (λ t k. entries_under ls (number_of numbers t k)) (λ t k. entries_under (set ls n l) (number_of now t k)) l.table l.key l.entries.items
  changes-first now n l lt empty puts own = record {
    here = seen-same now n l l.table l.key lt own;
    beside = λ t k other.
        let same = puts-other numbers now (l.table, l.key) (Some n) puts t k other in
        ap (entries_under (set ls n l)) same ∙ seen-other n l (number_of numbers t k) (empty-unnamed n empty t k);
  }

  -- a number more changes nothing
  pub same-push : (l : Keyed) → IsSame (λ t k. entries_under ls (number_of numbers t k)) (λ t k. entries_under (ls ++ l ∷ []) (number_of numbers t k))
  same-push l t k = at (number_of numbers t k) refl
    where
      at : (o : Option ℕ) → number_of numbers t k ≡ o → entries_under (ls ++ l ∷ []) o ≡ entries_under ls o
      at None e = refl
      at (Some n) e = ap entries_in (slot-before ls n l (number-within t k n e))

  -- the same entries, with another vector, are seen the same
  pub changes-same : (n : ℕ) (l new : Keyed) (t : ℕ) (k : Key) → number_of numbers t k ≡ Some n → slice_get ls n ≡ Some l → new.entries.items ≡ l.entries.items
      → IsSame (λ t' k'. entries_under ls (number_of numbers t' k')) (λ t' k'. entries_under (set ls n new) (number_of numbers t' k'))
  changes-same n l new t k e at items t' k' = go (number_of numbers t' k')
    where
      go : (o : Option ℕ) → entries_under (set ls n new) o ≡ entries_under ls o
      go None = refl
      go (Some j) = elim (cases_eq j n) [
        | inl same ↦ rw same (ap entries_in (slot-same ls n new (number-within t k n e)) ∙ items ∙ sym (ap entries_in at))
        | inr other ↦ ap entries_in (slot-other ls n j new other)
      ]

-- a list with an element more is not empty
pub push-some : (es : List Entry) (e : Entry) → es ++ e ∷ [] ≢ []
push-some [] e h = cc
push-some (x ∷ es) e h = cc

-- a fact that holds at any result holds after an error
pub always_err : {T E : Type 0} {P : Type 0} (r : Result T E) → P → OnErr r P
always_err (Ok x) p = tt
always_err (Err e) p = p
