-- Records in their places.
use Rattle.std.proofs.Common.{◌≡◌, ℕ, true, Bool, ◌&&◌, List, [], ◌∷◌, ◌++◌, Option, Some, None, refl, ap, sym, ◌∙◌, subst}
use Rattle.std.specs.FinMap.{empty}
use Rattle.log_records.specs.Entries.{Entry}
use Rattle.log_records.proofs.Numbers.{both_true}
use Rattle.ids_model.specs.Slots.{Own, own_all}
use Rattle.ids_model.specs.Recovered.{State, owns}
use Rattle.ids_model.specs.RecoveryLaws.{RunsJoin}
use Rattle.fast_recovery.specs.Order.{closing}
use Rattle.fast_recovery.specs.InPlace.{in_place, all_in_place}

-- both
pub and-is : (a b : Bool) → a ≡ true → b ≡ true → (a && b) ≡ true
and-is a b p q = ap (λ c. c && b) p ∙ q

-- the owners after a record and others are those after the others, from the ones after it
pub owns-one : RunsJoin → (own : Own) (e : Entry) (es : List Entry) → own_all own (owns (e ∷ es)) ≡ own_all (own_all own (owns (e ∷ []))) (owns es)
owns-one join own e es = ap (λ (s : State). s.own) (join (record { own = own; slots = empty; standing = [] }) (e ∷ []) es)

-- one record, in its place
pub places-one : (pages : ℕ) (own : Own) (e : Entry) → in_place pages own e ≡ true → all_in_place pages own (e ∷ []) ≡ true
places-one pages own e is = ap (λ b. b && true) is

-- records in their places, and others behind them
pub places-append : RunsJoin → (pages : ℕ) (own : Own) (xs ys : List Entry)
    → all_in_place pages own xs ≡ true → all_in_place pages (own_all own (owns xs)) ys ≡ true → all_in_place pages own (xs ++ ys) ≡ true
places-append join pages own [] ys one two = two
places-append join pages own (e ∷ xs) ys one two =
    let next : Own = own_all own (owns (e ∷ [])) in
    let was = both_true (in_place pages own e) (all_in_place pages next xs) one in
    and-is (in_place pages own e) (all_in_place pages next (xs ++ ys)) was.0
    (places-append join pages next xs ys was.1 (subst (λ (o : Own). all_in_place pages o ys ≡ true) (owns-one join own e xs) two))

-- of records in their places a front is, and so are the others behind it
pub places-split : RunsJoin → (pages : ℕ) (own : Own) (xs ys : List Entry) → all_in_place pages own (xs ++ ys) ≡ true
    → (all_in_place pages own xs ≡ true) × (all_in_place pages (own_all own (owns xs)) ys ≡ true)
places-split join pages own [] ys all = (refl, all)
places-split join pages own (e ∷ xs) ys all =
    let next : Own = own_all own (owns (e ∷ [])) in
    let was = both_true (in_place pages own e) (all_in_place pages next (xs ++ ys)) all in
    let more = places-split join pages next xs ys was.1 in (
      and-is (in_place pages own e) (all_in_place pages next xs) was.0 more.0,
      subst (λ (o : Own). all_in_place pages o ys ≡ true) (sym (owns-one join own e xs)) more.1,
    )

-- what closes a log is in its place, and so is a front of it
pub places-closing : RunsJoin → (pages : ℕ) (own : Own) (o : Option ℕ) (front rest : List Entry) → closing o ≡ front ++ rest → all_in_place pages own front ≡ true
places-closing join pages own o front rest parts = (places-split join pages own front rest (ap (all_in_place pages own) (sym parts) ∙ whole o)).0
  where
    whole : (last : Option ℕ) → all_in_place pages own (closing last) ≡ true
    whole None = refl
    whole (Some tx) = refl
