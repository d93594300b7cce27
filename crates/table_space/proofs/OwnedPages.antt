-- Sets of pages' places, and the owners of the pages.
use Rattle.std.proofs.Common.{◌≡◌, ◌≢◌, ℕ, zero, suc, ◌+◌, ◌-◌, ◌<◌, ◌≤◌, ◌^◌, ◌==◌, ◌&&◌, ◌||◌, nat_lt, Bool, true, false, cond, not, refl, ap, sym, ◌∙◌, subst, List, [], ◌∷◌, length, set, Option, Some, None, arith, inl, inr, slice_index_or, replicate, get_or-set_same, get_or-set_other}
use Rattle.std.proofs.lemmas.List.{length-set, length-replicate, get_or-replicate}
use Rattle.std.specs.List.{count_by}
use Rattle.std.specs.Option.{MatchOption}
use Rattle.std.specs.Ordering.{ordering_then, is_lt}
use Rattle.std.specs.declared.cmp.Ordering.TheVariants.{Less, Equal, Greater}
use Rattle.std.proofs.lemmas.Bool.{false≢true, cases_eq}
use Rattle.std.proofs.lemmas.Bool.Decides.{nat_tests}
use Rattle.std.proofs.lemmas.List.Sums.{sum_by-cons}
use Rattle.table_space.specs.declared.pages.Place.{Place}
use Rattle.table_space.specs.Ordered.{less, Each, AreBelow, IsOrdered, IsTaken, HasNone, IsFirstFrom}
use Rattle.table_space.specs.Owners.{is_own, owner_in, IsOwned, IsNextOwned, HasNoNextOwned}
use Rattle.table_space.specs.Pages.{place, place_cmp, one_owned, count_owned, AreOwned, ArePages}
use Rattle.table_space.proofs.Tallies.{count-middle, count-taken, count-none}
use Rattle.table_space.proofs.Ordered.{each-append, each-weaker, ordered-from}

-- the order of places by tests
tests-less : (a b c d : Bool) → is_lt (ordering_then (cond a Less (cond b Equal Greater)) (cond c Less (cond d Equal Greater))) ≡ (a || (b && c))
tests-less true b c d = refl
tests-less false true true d = refl
tests-less false true false true = refl
tests-less false true false false = refl
tests-less false false c d = refl

pub place-less : (a b : Place) → less place_cmp a b ≡ (nat_lt a.table b.table || ((a.table == b.table) && nat_lt a.page b.page))
place-less a b = tests-less (nat_lt a.table b.table) (a.table == b.table) (nat_lt a.page b.page) (a.page == b.page)

-- what it says of tables and pages
pub less-table : (t u p q : ℕ) → less place_cmp (place t p) (place u q) ≡ false → u ≤ t
less-table t u p q e =
    let d = sym (place-less (place t p) (place u q)) ∙ e in
    grind (arith, nat_tests)

pub less-page : (t p q : ℕ) → less place_cmp (place t p) (place t q) ≡ false → q ≤ p
less-page t p q e =
    let d = sym (place-less (place t p) (place t q)) ∙ e in
    grind (arith, nat_tests)

pub from-page : (t p q : ℕ) → q ≤ p → less place_cmp (place t p) (place t q) ≡ false
from-page t p q h = place-less (place t p) (place t q) ∙ grind (arith, nat_tests)

-- a page of one table and no other: as many pages before the end as before it, and its own
one-range : (t u p end : ℕ) → p < end → cond (less place_cmp (place u p) (place t end)) 1 0 ≡ cond (less place_cmp (place u p) (place t 0)) 1 0 + cond (u == t) 1 0
one-range t u p end h = rw (place-less (place u p) (place t end), place-less (place u p) (place t 0)) (grind (arith, nat_tests))

by-cons : (t : ℕ) (o : Option ℕ) (os : List (Option ℕ)) → count_by (is_own t) (o ∷ os) ≡ cond (is_own t o) 1 0 + count_by (is_own t) os
by-cons t o os = sum_by-cons (λ (x : Option ℕ). cond (is_own t x) 1 0) o os

pub count-range : (t end from : ℕ) (os : List (Option ℕ)) → from + length os ≤ end
    → count_owned (λ x. less place_cmp x (place t end)) from os ≡ count_owned (λ x. less place_cmp x (place t 0)) from os + count_by (is_own t) os
count-range t end from [] h = refl
count-range t end from (None ∷ os) h = omega (arith, by-cons t None os, count-range t end (from + 1) os (omega arith))
count-range t end from (Some u ∷ os) h = omega (arith, by-cons t (Some u) os, one-range t u from end (omega arith), count-range t end (from + 1) os (omega arith))

-- so a table owns as many pages as there are places between two bounds
pub count-between : (os : List (Option ℕ)) (xs : List Place) (t end to first : ℕ) → AreOwned os xs → 1 + length os ≤ end → to ≡ count_by (λ x. less place_cmp x (place t end)) xs → first ≡ count_by (λ x. less place_cmp x (place t 0)) xs
    → to ≡ first + count_by (is_own t) os
count-between os xs t end to first owned far up low =
    omega (arith, count-range t end 1 os far, owned (λ x. less place_cmp x (place t end)), owned (λ x. less place_cmp x (place t 0)), up, low)

-- the count of places, where a page goes to a table
pub owned-set : (p : Place → Bool) (from : ℕ) (os : List (Option ℕ)) (i t : ℕ) (d : Option ℕ) → i < length os
    → count_owned p from (set os i (Some t)) + one_owned p (from + i) (slice_index_or os i d) ≡ count_owned p from os + cond (p (place t (from + i))) 1 0
owned-set p from [] i t d lt = absurd (omega arith)
owned-set p from (o ∷ os) zero t d lt =
    let e : from + 0 ≡ from = omega arith in
    rw e (omega arith)
owned-set p from (o ∷ os) (suc i) t d lt =
    let e : from + suc i ≡ from + 1 + i = omega arith in
    rw e (omega (arith, owned-set p (from + 1) os i t d (omega arith)))

-- a page is counted where its place passes
pub owned-one : (p : Place → Bool) (from : ℕ) (os : List (Option ℕ)) (i : ℕ) (d : Option ℕ) → i < length os → one_owned p (from + i) (slice_index_or os i d) ≤ count_owned p from os
owned-one p from [] i d lt = absurd (omega arith)
owned-one p from (o ∷ os) zero d lt =
    let e : from + 0 ≡ from = omega arith in
    rw e (omega arith)
owned-one p from (o ∷ os) (suc i) d lt =
    let e : from + suc i ≡ from + 1 + i = omega arith in
    rw e (omega (arith, owned-one p (from + 1) os i d (omega arith)))

-- no more pages have an owner than there are, and fewer where one has none
one-most : (p : Place → Bool) (page : ℕ) (o : Option ℕ) → one_owned p page o ≤ 1
one-most p page None = omega arith
one-most p page (Some t) = at (p (place t page))
  where
    at : (b : Bool) → cond b 1 0 ≤ 1
    at true = omega arith
    at false = omega arith

pub owned-most : (p : Place → Bool) (from : ℕ) (os : List (Option ℕ)) → count_owned p from os ≤ length os
owned-most p from [] = omega arith
owned-most p from (o ∷ os) = omega (arith, one-most p from o, owned-most p (from + 1) os)

pub owned-fewer : (p : Place → Bool) (from : ℕ) (os : List (Option ℕ)) (i : ℕ) (d : Option ℕ) → i < length os → slice_index_or os i d ≡ None → count_owned p from os < length os
owned-fewer p from [] i d lt e = absurd (omega arith)
owned-fewer p from (o ∷ os) zero d lt e =
    let n : one_owned p from o ≡ 0 = ap (one_owned p from) e in
    omega (arith, n, owned-most p (from + 1) os)
owned-fewer p from (o ∷ os) (suc i) d lt e = omega (arith, one-most p from o, owned-fewer p (from + 1) os i d (omega arith) e)

-- where a page goes to a table, there is room for one more
pub owned-room : (p : Place → Bool) (from : ℕ) (os : List (Option ℕ)) (i : ℕ) (d : Option ℕ) → i < length os → ((x : Place) → p x ≡ true) → count_owned p from os < length os + one_owned p (from + i) (slice_index_or os i d)
owned-room p from os i d lt all =
    let one : cond {A = ℕ} (p (place 0 (from + i))) 1 0 ≡ 1 = rw (all (place 0 (from + i))) refl in
    omega (arith, one, owned-set p from os i 0 d lt, owned-most p from (set os i (Some 0)), length-set os i (Some 0))

-- pages without owners have no places
pub owned-none : (p : Place → Bool) (from n : ℕ) → count_owned p from (replicate n None) ≡ 0
owned-none p from zero = refl
owned-none p from (suc n) = omega (arith, owned-none p (from + 1) n)

pub are-new : (os : List (Option ℕ)) (places : List Place) (spare n : ℕ) → os ≡ replicate n None → places ≡ [] → spare ≡ n → n < 2 ^ 24 → ArePages os places spare 1
are-new os places spare n none empty nodes few =
    let l : length os ≡ n = ap length none ∙ length-replicate n None in
    record {
      few = omega (arith, l);
      ordered = rw empty tt;
      owned = λ test. ap (count_by test) empty ∙ sym (ap (count_owned test 1) none ∙ owned-none test 1 n);
      nodes = omega (arith, ap length empty, l);
      low = omega arith;
      high = omega arith;
      before = λ page first last. absurd (omega (arith, first, last));
      next = λ some. ap (λ o. owner_in o 1) none ∙ get_or-replicate n 0 None None (omega (arith, some, l));
    }

-- a page that has an owner has one after a page goes to a table
pub owner-stays : (os : List (Option ℕ)) (i t page : ℕ) → i < length os → owner_in os page ≢ None → owner_in (set os i (Some t)) page ≢ None
owner-stays os i t page lt had = elim (cases_eq (page - 1) i) [
  | inl same ↦ λ none. absurd (let e : Some t ≡ None = sym (ap (λ k. slice_index_or (set os i (Some t)) k None) same ∙ get_or-set_same os i (Some t) None lt) ∙ none in cc)
  | inr other ↦ λ none. had (sym (get_or-set_other os i (page - 1) (Some t) None other) ∙ none)
]

-- a place that is counted is that of a page
abbrev pub is_place : ℕ → ℕ → Place → Bool
is_place t page x = (x.table == t) && (x.page == page)

pub owned-found : (t page from : ℕ) (os : List (Option ℕ)) → 0 < count_owned (is_place t page) from os → (from ≤ page) × (page < from + length os) × (slice_index_or os (page - from) None ≡ Some t)
owned-found t page from [] some = absurd (omega arith)
owned-found t page from (None ∷ os) some =
    let f = owned-found t page (from + 1) os (omega arith) in
    let e : page - from ≡ suc (page - (from + 1)) = omega (arith, f.0) in
    (omega (arith, f.0), omega (arith, f.1), rw e f.2)
owned-found t page from (Some u ∷ os) some = at (is_place t page (place u from)) refl (owned-found t page (from + 1) os)
  where
    at : (b : Bool) → is_place t page (place u from) ≡ b → (0 < count_owned (is_place t page) (from + 1) os → (from + 1 ≤ page) × (page < from + 1 + length os) × (slice_index_or os (page - (from + 1)) None ≡ Some t))
        → (from ≤ page) × (page < from + length (Some u ∷ os)) × (slice_index_or (Some u ∷ os) (page - from) None ≡ Some t)
    at true e rest =
        let k : u ≡ t = grind (arith, nat_tests) in
        let n : page ≡ from = grind (arith, nat_tests) in
        let z : page - from ≡ 0 = omega arith in
        (omega arith, omega arith, rw z (ap Some k))
    at false e rest =
        let n : one_owned (is_place t page) from (Some u) ≡ 0 = rw e refl in
        let f = rest (omega (arith, n, some)) in
        let s : page - from ≡ suc (page - (from + 1)) = omega (arith, f.0) in
        (omega (arith, f.0), omega (arith, f.1), rw s f.2)

itself : (x : Place) → is_place x.table x.page x ≡ true
itself x = grind (arith, nat_tests)

-- places of which neither is less are one
exact : (x : Place) (t page : ℕ) → less place_cmp x (place t page) ≡ false → less place_cmp (place t page) x ≡ false → x ≡ place t page
exact x t page a b =
    let d = sym (place-less x (place t page)) ∙ a in
    let e = sym (place-less (place t page) x) ∙ b in
    let k : x.table ≡ t = grind (arith, nat_tests) in
    let n : x.page ≡ page = grind (arith, nat_tests) in
    ap (λ u. place u x.page) k ∙ ap (place t) n

-- a place that is there was taken out
pub left : (was now : List Place) (t page : ℕ) (taken : Option Place) → MatchOption taken (HasNone place_cmp was (place t page) × (now ≡ was)) (IsTaken place_cmp was now (place t page))
    → ((test : Place → Bool) → one_owned test page (Some t) ≤ count_by test was) → (test : Place → Bool) → count_by test now + one_owned test page (Some t) ≡ count_by test was
left was now t page None h there test =
    absurd (omega (arith, there (is_place t page), ap {B = ℕ} (λ b. cond b 1 0) (itself (place t page)), count-none (is_place t page) was (each-weaker _ _ was none h.0)))
  where
    none : (x : Place) → (less place_cmp x (place t page) ≡ false → less place_cmp (place t page) x ≡ true) → is_place t page x ≡ false
    none x h = at (is_place t page x) refl
      where
        at : (b : Bool) → is_place t page x ≡ b → is_place t page x ≡ false
        at false e = e
        at true e =
            let k : x.table ≡ t = grind (arith, nat_tests) in
            let n : x.page ≡ page = grind (arith, nat_tests) in
            let s : x ≡ place t page = ap (λ u. place u x.page) k ∙ ap (place t) n in
            let l : less place_cmp x (place t page) ≡ false = rw s (from-page t page page (omega arith)) in
            let m : less place_cmp (place t page) x ≡ false = rw s (from-page t page page (omega arith)) in
            absurd (false≢true (sym m ∙ h l))
left was now t page (Some x) h there test =
    let e = exact x t page h.not_less h.not_greater in
    rw e at (sym (count-taken test place_cmp was now (place t page) x h))

-- of the first place from a page on
module _ (os : List (Option ℕ)) (xs : List Place) (ordered : IsOrdered place_cmp xs) (owned : AreOwned os xs) (t page : ℕ) where
  -- a page of the table passes no test that no place passes
  none-owned : (test : Place → Bool) → Each (λ x. test x ≡ false) xs → (p : ℕ) → IsOwned os t p → test (place t p) ≡ true → ⊥
  none-owned test none p h e =
      let i : 1 + (p - 1) ≡ p = omega (arith, h.first) in
      let one : one_owned test (1 + (p - 1)) (slice_index_or os (p - 1) None) ≡ 1 = rw (i, h.owned, e) refl in
      omega (arith, one, owned-one test 1 os (p - 1) None (omega (arith, h.first, h.last)), sym (owned test), count-none test xs none)

  pub next-none : AreBelow place_cmp (place t (page + 1)) xs → HasNoNextOwned os t page
  next-none below = λ p h. at p h (nat_lt page p) refl
    where
      failed : (b : Bool) → b ≡ true → not b ≡ false
      failed b e = rw e refl

      at : (p : ℕ) → IsOwned os t p → (b : Bool) → nat_lt page p ≡ b → p ≤ page
      at p h true e =
          let lt : page + 1 ≤ p = grind (arith, nat_tests) in
          absurd (none-owned (λ x. not (less place_cmp x (place t (page + 1)))) (each-weaker _ _ xs (λ x l. failed _ l) below) p h (rw (from-page t p (page + 1) lt) refl))
      at p h false e = grind (arith, nat_tests)

  module _ (x : Place) (h : IsFirstFrom place_cmp xs (place t (page + 1)) x) where
    abbrev is_between : Place → Bool
    is_between y = not (less place_cmp y (place t (page + 1))) && less place_cmp y x

    none-between : Each (λ y. is_between y ≡ false) xs
    none-between =
        let o = subst (IsOrdered place_cmp) h.is ordered in
        subst (Each (λ y. is_between y ≡ false)) (sym h.is) (each-append _ h.before (x ∷ h.behind)
        (each-weaker _ _ h.before (λ y l. rw l refl) h.low)
        (last (not (less place_cmp x (place t (page + 1)))) _ (less-itself x), each-weaker _ _ h.behind (λ y l. last (not (less place_cmp y (place t (page + 1)))) _ l) (ordered-from place_cmp h.before h.behind x o)))
      where
        last : (a b : Bool) → b ≡ false → (a && b) ≡ false
        last true b e = e
        last false b e = refl

        less-itself : (y : Place) → less place_cmp y y ≡ false
        less-itself y = from-page y.table y.page y.page (omega arith)

    not-below : (p : ℕ) → IsOwned os t p → page < p → less place_cmp (place t p) x ≡ false
    not-below p g lt = at (less place_cmp (place t p) x) refl
      where
        at : (b : Bool) → less place_cmp (place t p) x ≡ b → less place_cmp (place t p) x ≡ false
        at true e = absurd (none-owned is_between none-between p g (rw (from-page t p (page + 1) (omega (arith, lt)), e) refl))
        at false e = e

    -- it is that of the table's next page, or the table has none
    pub next-found : x.table ≡ t → IsNextOwned os t page x.page
    next-found same =
        let p : Place → Bool = is_place x.table x.page in
        let some : 0 < count_owned p 1 os = omega (arith, sym (owned p), ap (count_by p) h.is, count-middle p h.before h.behind x, ap {B = ℕ} (λ b. cond b 1 0) (itself x)) in
        let f = owned-found x.table x.page 1 os some in
        let high : less place_cmp (place t x.page) (place t (page + 1)) ≡ false = subst (λ u. less place_cmp (place u x.page) (place t (page + 1)) ≡ false) same h.high in
        record {
          one = record { first = f.0; last = omega (arith, f.1); owned = f.2 ∙ ap Some same };
          behind = omega (arith, less-page t x.page (page + 1) high);
          least = λ q g lt. less-page t q x.page (subst (λ u. less place_cmp (place t q) (place u x.page) ≡ false) same (not-below q g lt));
        }

    pub next-other : x.table ≢ t → HasNoNextOwned os t page
    next-other other = λ p g. at p g (nat_lt page p) refl
      where
        at : (p : ℕ) → IsOwned os t p → (b : Bool) → nat_lt page p ≡ b → p ≤ page
        at p g true e =
            let lt : page < p = grind (arith, nat_tests) in
            let low : x.table ≤ t = less-table t x.table p x.page (not-below p g lt) in
            let high : t ≤ x.table = less-table x.table t x.page (page + 1) h.high in
            absurd (other (omega (arith, low, high)))
        at p g false e = grind (arith, nat_tests)
