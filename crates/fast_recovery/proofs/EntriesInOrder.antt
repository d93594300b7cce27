-- The entries of a map in the order of their keys, read one after another.
use Rattle.std.proofs.Common.{◌≡◌, ◌<◌, ℕ, T, true, false, Bool, cond, ◌&&◌, ◌==◌, refl, ap, sym, ◌∙◌, subst, List, [], ◌∷◌, Some, None, ◌⊎◌, inl, inr}
use Rattle.std.specs.FinMap as map
use Rattle.std.specs.FinMap.{FinMap, get-entries, entries_sorted, find}
use Rattle.std.specs.FinMap.Entries.{is_sorted, below_all}
use Rattle.std.specs.Ordering.{MatchOrdering, nat_cmp, is_lt, is_eq}
use Rattle.std.specs.declared.cmp.Ordering.{Ordering}
use Rattle.std.specs.declared.cmp.Ordering.TheVariants.{Less, Equal, Greater}
use Rattle.std.specs.Cmp.{unsigned_tied, ranks}
use Rattle.std.proofs.lemmas.Bool.{eqb-true, eq-eqb}
use Rattle.ids_model.proofs.Holding.{none_some}
use Rattle.ids_model.proofs.Setting.{same_or_not}
use Rattle.fast_recovery.specs.Reading.{AreEntries, IsRead}

front : (a b : Bool) → T (a && b) → T a
front true b h = tt
front false b h = h

rear : (a b : Bool) → T (a && b) → T b
rear true b h = h
rear false b h = absurd h

less_alone : (o : Ordering) → T (is_lt o) → is_eq o ≡ false
less_alone Less h = refl
less_alone Equal h = absurd h
less_alone Greater h = absurd h

module _ {V : Type 0} where
  -- a key below all others is not among them
  below_others : (q : ℕ) (es : List (ℕ × V)) → T (below_all nat_cmp q es) → find nat_cmp q es ≡ None
  below_others q [] h = refl
  below_others q (e ∷ es) h = ap (λ b. cond b (Some e.1) (find nat_cmp q es)) (less_alone (nat_cmp q e.0) (front _ _ h)) ∙ below_others q es (rear _ _ h)

  pub found_here : (e : ℕ × V) (es : List (ℕ × V)) → find nat_cmp e.0 (e ∷ es) ≡ Some e.1
  found_here e es = ap (λ b. cond b (Some e.1) (find nat_cmp e.0 es)) (unsigned_tied e.0 e.0 ∙ eq-eqb e.0 e.0 refl)

  pub found_later : (e : ℕ × V) (es : List (ℕ × V)) (q : ℕ) → (q ≡ e.0 → ⊥) → find nat_cmp q (e ∷ es) ≡ find nat_cmp q es
  found_later e es q other = ap (λ b. cond b (Some e.1) (find nat_cmp q es)) (unsigned_tied q e.0) ∙ inside (q == e.0) refl
    where
      inside : (b : Bool) → (q == e.0) ≡ b → cond b (Some e.1) (find nat_cmp q es) ≡ find nat_cmp q es
      inside true is = absurd (other (eqb-true q e.0 is))
      inside false is = refl

  -- what is not found among entries is no first one, and not found later
  pub not_here : (e : ℕ × V) (es : List (ℕ × V)) (q : ℕ) → find nat_cmp q (e ∷ es) ≡ None → q ≡ e.0 → ⊥
  not_here e es q none same = none_some e.1 (sym none ∙ ap (λ (x : ℕ). find nat_cmp x (e ∷ es)) same ∙ found_here e es)

  pub not_later : (e : ℕ × V) (es : List (ℕ × V)) (q : ℕ) → find nat_cmp q (e ∷ es) ≡ None → find nat_cmp q es ≡ None
  not_later e es q none = sym (found_later e es q (not_here e es q none)) ∙ none

  pub not_at_all : (e : ℕ × V) (es : List (ℕ × V)) (q : ℕ) → find nat_cmp q es ≡ None → (q ≡ e.0 → ⊥) → find nat_cmp q (e ∷ es) ≡ None
  not_at_all e es q none other = found_later e es q other ∙ none

-- a number that compares as less is less
less_number : (a b : ℕ) (o : Ordering) → MatchOrdering o (a < b) (a ≡ b) (b < a) → T (is_lt o) → a < b
less_number a b Less is h = is
less_number a b Equal is h = absurd h
less_number a b Greater is h = absurd h

are_entries : {V : Type 0} (m : FinMap nat_cmp V) (es : List (ℕ × V)) → T (is_sorted nat_cmp es) → ((q : ℕ) (v : V) → find nat_cmp q es ≡ Some v → map.get m q ≡ Some v)
    → ((q : ℕ) (v : V) → map.get m q ≡ Some v → find nat_cmp q es ≡ None → T (below_all nat_cmp q es)) → AreEntries m es
are_entries m [] s h below = tt
are_entries {V} m (e ∷ es) s h below = (
  h e.0 e.1 (found_here e es),
  once,
  are_entries m es (rear _ _ s) (λ q v is. h q v (found_later e es q (other q v is) ∙ is)) (λ q v at read. lower q v at read (same_or_not q e.0)),
  λ q v at read. less_number q e.0 (nat_cmp q e.0) (ranks q e.0) (front _ _ (below q v at read)),
)
  where
    -- the key of the entry, and those before it, are below the others
    lower : (q : ℕ) (v : V) → map.get m q ≡ Some v → find nat_cmp q es ≡ None → (q ≡ e.0) ⊎ (q ≡ e.0 → ⊥) → T (below_all nat_cmp q es)
    lower q v at read (inl here) = subst (λ (x : ℕ). T (below_all nat_cmp x es)) (sym here) (front _ _ s)
    lower q v at read (inr there) = rear _ _ (below q v at (not_at_all e es q read there))

    once : find nat_cmp e.0 es ≡ None
    once = below_others e.0 es (front _ _ s)

    other : (q : ℕ) (v : V) → find nat_cmp q es ≡ Some v → q ≡ e.0 → ⊥
    other q v is same = none_some v (sym once ∙ sym (ap (λ (x : ℕ). find nat_cmp x es) same) ∙ is)

module _ {V : Type 0} (m : FinMap nat_cmp V) where
  -- all entries of a map, of which none is read
  pub all_entries : AreEntries m (map.entries m)
  all_entries = are_entries m (map.entries m) (entries_sorted m) (λ q v is. get-entries m q ∙ is) (λ q v at read. absurd (none_some v (sym read ∙ sym (get-entries m q) ∙ at)))

  pub none_read : (q : ℕ) (v : V) → map.get m q ≡ Some v → IsRead (map.entries m) q → ⊥
  none_read q v at read = none_some v (sym read ∙ sym (get-entries m q) ∙ at)
