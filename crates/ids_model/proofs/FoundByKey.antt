-- Where each row stands under its own key, those that meet a condition that names a key are found by it.
use Rattle.std.proofs.Common.{◌≡◌, true, false, Bool, cond, ◌&&◌, T, refl, ap, sym, subst, ◌∙◌, List, [], ◌∷◌, Option, Some}
use Rattle.std.specs.Prelude.{filter}
use Rattle.std.specs.List.{AllByRecursion}
use Rattle.std.specs.FinMap.{entries, entries_sorted, get, get-entries, find}
use Rattle.std.specs.FinMap.Entries.{is_sorted, below_all}
use Rattle.std.specs.Ordering.{is_eq}
use Rattle.std.specs.Cmp.{tied_itself}
use Rattle.ids_base.specs.declared.value.Value.{Value}
use Rattle.ids_base.specs.declared.plan.Comparison.{Comparison}
use Rattle.ids_base.specs.declared.plan.Comparison.TheVariants.{Equal, NotEqual, Less, AtMost, Greater, AtLeast}
use Rattle.ids_base.specs.declared.plan.Term.{Term}
use Rattle.ids_base.specs.Values.{value_cmp}
use Rattle.ids_base.specs.Orders.{values_total}
use Rattle.ids_model.specs.Tables.{Row, Shape, Rows}
use Rattle.ids_model.specs.Rows.{same_name, cell, holds_of, is_equal, names_key, key_named, meets}
use Rattle.ids_model.specs.Fits.{key_of}
use Rattle.ids_model.specs.Keyed.{IsKeyed, entry}
use Rattle.ids_model.specs.Meaning.{chosen}
use Rattle.ids_model.proofs.Lookups.{same_key, one_key}
use Rattle.ids_model.proofs.Deletions.{Found, found-each, unlike, first, second}

left_true : (a b : Bool) → (a && b) ≡ true → a ≡ true
left_true true b e = refl
left_true false b e = cc

right_true : (a b : Bool) → (a && b) ≡ true → b ≡ true
right_true true b e = e
right_true false b e = cc

same_value : (v w : Value) → Some v ≡ Some w → v ≡ w
same_value v w e = cc

-- an equal value holds that value
holds_equal : (comparison : Comparison) (v w : Value) → is_equal comparison ≡ true → holds_of comparison (Some v) w ≡ true → v ≡ w
holds_equal Equal v w e h = one_key v w h
holds_equal NotEqual v w e h = cc
holds_equal Less v w e h = cc
holds_equal AtMost v w e h = cc
holds_equal Greater v w e h = cc
holds_equal AtLeast v w e h = cc

-- a term that names the key holds only of a row with that key
named_holds : (shape : Shape) (t : Term) (row : Row) → names_key shape t ≡ true → holds_of t.comparison (cell shape row t.column) t.value ≡ true → key_of row ≡ Some t.value
named_holds [] t row e h = cc
named_holds (c ∷ cs) t [] e h = cc
named_holds (c ∷ cs) t (v ∷ vs) e h =
    let here : same_name t.column c.name ≡ true = left_true _ _ e in
    ap (λ (x : Value). Some x) (holds_equal t.comparison v t.value (right_true (same_name t.column c.name) _ e)
    (subst (λ (b : Bool). holds_of t.comparison (cond b (Some v) (cell cs vs t.column)) t.value ≡ true) here h))

-- a row that meets a condition has the key that it names
pub meets_named : (shape : Shape) (terms : List Term) (row : Row) (k : Value) → key_named shape terms ≡ Some k → meets shape terms row ≡ true → key_of row ≡ Some k
meets_named shape [] row k named met = cc
meets_named shape (t ∷ ts) row k named met =
    by_test (λ later. meets_named shape ts row k later (right_true (holds_of t.comparison (cell shape row t.column) t.value) _ met)) (names_key shape t) refl
  where
    by_test : (key_named shape ts ≡ Some k → key_of row ≡ Some k) → (b : Bool) → names_key shape t ≡ b → key_of row ≡ Some k
    by_test rest true e = named_holds shape t row e (left_true _ _ met) ∙ sym (ap (λ (b : Bool). cond b (Some t.value) (key_named shape ts)) e) ∙ named
    by_test rest false e = rest (sym (ap (λ (b : Bool). cond b (Some t.value) (key_named shape ts)) e) ∙ named)

abbrev Keyed : Found → Type 0
Keyed es = AllByRecursion (λ (f : Value × Row). key_of f.1 ≡ Some f.0) es

module _ (p : Value × Row → Bool) (k : Value) (only : (e : Value × Row) → p e ≡ true → key_of e.1 ≡ Some k) where
  other : (e : Value × Row) → key_of e.1 ≡ Some e.0 → same_key k e.0 ≡ false → (b : Bool) → p e ≡ b → b ≡ false
  other e keyed apart_from false is = refl
  other e keyed apart_from true is =
      let same : k ≡ e.0 = same_value k e.0 (sym (only e is) ∙ keyed) in
      let tied : same_key k e.0 ≡ true = subst (λ (q : Value). same_key k q ≡ true) same (ap is_eq (tied_itself values_total k)) in
      cc

  passed-over : (e : Value × Row) (es : Found) → key_of e.1 ≡ Some e.0 → same_key k e.0 ≡ false → filter p (e ∷ es) ≡ filter p es
  passed-over e es keyed apart_from = ap (λ (b : Bool). cond b (e ∷ filter p es) (filter p es)) (other e keyed apart_from (p e) refl)

  -- behind the key there is no other row that passes
  none-behind : (es : Found) → T (below_all value_cmp k es) → Keyed es → filter p es ≡ []
  none-behind [] below keyed = refl
  none-behind (f ∷ fs) below keyed =
      passed-over f fs keyed.0 (unlike (value_cmp k f.0) (first _ _ below)) ∙ none-behind fs (second _ _ below) keyed.1

  pub found-one : (es : Found) → T (is_sorted value_cmp es) → Keyed es → filter p (entry k (find value_cmp k es)) ≡ filter p es
  found-one [] sorted keyed = refl
  found-one (e ∷ es) sorted keyed = by_key (found-one es (second _ _ sorted) keyed.1) (same_key k e.0) refl
    where
      by_key : filter p (entry k (find value_cmp k es)) ≡ filter p es → (b : Bool) → same_key k e.0 ≡ b → filter p (entry k (cond b (Some e.1) (find value_cmp k es))) ≡ filter p (e ∷ es)
      by_key rest false is = rest ∙ sym (passed-over e es keyed.0 is)
      by_key rest true is =
          let same : k ≡ e.0 = one_key k e.0 is in
          let none : filter p es ≡ [] = none-behind es (subst (λ (q : Value). T (below_all value_cmp q es)) (sym same) (first _ _ sorted)) keyed.1 in
          ap (λ (q : Value). filter p ((q, e.1) ∷ [])) same ∙ sym (ap (λ (fs : Found). cond (p e) (e ∷ fs) fs) none)

-- the rows of a table under their keys
keyed-all : (m : Rows) → IsKeyed m → (fs : Found) → AllByRecursion (λ (f : Value × Row). find value_cmp f.0 (entries m) ≡ Some f.1) fs → Keyed fs
keyed-all m keyed [] all = tt
keyed-all m keyed (f ∷ fs) all = (keyed f.0 f.1 (get-entries m f.0 ∙ all.0), keyed-all m keyed fs all.1)

pub found-by-key : (shape : Shape) (terms : List Term) (m : Rows) (k : Value) → IsKeyed m → key_named shape terms ≡ Some k
    → filter (λ (e : Value × Row). meets shape terms e.1) (entry k (get m k)) ≡ chosen shape terms m
found-by-key shape terms m k keyed named =
    ap (λ (o : Option Row). filter (λ (e : Value × Row). meets shape terms e.1) (entry k o)) (get-entries m k)
    ∙ found-one (λ (e : Value × Row). meets shape terms e.1) k (λ e met. meets_named shape terms e.1 k named met)
    (entries m) (entries_sorted m) (keyed-all m keyed (entries m) (found-each (entries m) (entries_sorted m)))
