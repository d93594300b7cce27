-- Along a list of ids, from one on.
use Rattle.std.proofs.Common.{◌≡◌, ◌≢◌, ◌∙◌, ℕ, zero, suc, ◌-◌, ◌<◌, ◌==◌, Bool, true, false, cond, List, [], ◌∷◌, ◌++◌, length, map, refl, ap, sym, subst, arith, inl, inr, append_assoc, Option, Some, None}
use Rattle.std.specs.List.{filter, slice_get}
use Rattle.std.proofs.lemmas.Bool.Decides.{eqb_tells}
use Rattle.link_lists.specs.Lists.{has, Once, first_of, behind}
use Rattle.link_lists.proofs.Calls.{behind-parts}
use Rattle.link_lists.proofs.Members.{has-first, has-later, has-both, has-left, not-has, same_test, parts-at, once-middle}
use Rattle.thread_queues.specs.declared.event.Waiter.{Waiter}
use Rattle.thread_queues.specs.Slotted.{threads_of}

-- the ids from this one on; none from none on
abbrev pub from : Option ℕ → List ℕ → List ℕ
from None xs = []
from (Some x) [] = []
from (Some x) (y ∷ ys) = cond (y == x) (y ∷ ys) (from (Some x) ys)

from-parts : (x : ℕ) (ys zs : List ℕ) → has x ys ≡ false → from (Some x) (ys ++ x ∷ zs) ≡ x ∷ zs
from-parts x [] zs h = ap (λ (b : Bool). cond b (x ∷ zs) (from (Some x) zs)) (same_test x)
from-parts x (y ∷ ys) zs h = elim (eqb_tells y x) as (λ v. from (Some x) (y ∷ (ys ++ x ∷ zs)) ≡ x ∷ zs) [
  | inl t ↦ absurd (has-both x (y ∷ ys) (subst (λ (k : ℕ). has k (y ∷ ys) ≡ true) t.1 (has-first y ys)) h)
  | inr f ↦ ap (λ (b : Bool). cond b (y ∷ (ys ++ x ∷ zs)) (from (Some x) (ys ++ x ∷ zs))) f.0 ∙ from-parts x ys zs (not-has x ys (λ k. has-both x (y ∷ ys) (has-later x y ys k) h))
]

left-out : (x : ℕ) (ys zs : List ℕ) → has x (ys ++ zs) ≡ false → has x ys ≡ false
left-out x ys zs h = not-has x ys (λ k. has-both x (ys ++ zs) (has-left x ys zs k) h)

from-rest : (x : ℕ) (ys zs : List ℕ) → Once (ys ++ x ∷ zs) → from (first_of zs) (ys ++ x ∷ zs) ≡ zs
from-rest x ys [] once = refl
from-rest x ys (z ∷ zs) once =
    let e : ys ++ x ∷ (z ∷ zs) ≡ (ys ++ x ∷ []) ++ z ∷ zs = sym (append_assoc ys (x ∷ []) (z ∷ zs)) in
    ap (from (Some z)) e ∙ from-parts z (ys ++ x ∷ []) zs (left-out z (ys ++ x ∷ []) zs (once-middle z (ys ++ x ∷ []) zs (subst (λ (l : List ℕ). Once l) e once)))

pub from-first : (xs : List ℕ) → from (first_of xs) xs ≡ xs
from-first [] = refl
from-first (x ∷ xs) = ap (λ (b : Bool). cond b (x ∷ xs) (from (Some x) xs)) (same_test x)

-- one step along the list
pub record IsStep (x : ℕ) (xs : List ℕ) : Type 0 where
  pub rest : List ℕ
  pub here : from (Some x) xs ≡ x ∷ rest
  pub next : from (behind x xs) xs ≡ rest
  pub at : behind x xs ≡ first_of rest

pub step : (x : ℕ) (xs : List ℕ) → Once xs → has x xs ≡ true → IsStep x xs
step x xs once h =
    let p = parts-at x xs h in
    let apart = left-out x p.0 p.1 (once-middle x p.0 p.1 (subst (λ (l : List ℕ). Once l) p.2 once)) in
    let at : behind x xs ≡ first_of p.1 = ap (behind x) p.2 ∙ behind-parts x p.0 p.1 apart in
    record {
      rest = p.1;
      here = ap (from (Some x)) p.2 ∙ from-parts x p.0 p.1 apart;
      next = ap (λ (o : Option ℕ). from o xs) at ∙ ap (from (first_of p.1)) p.2 ∙ from-rest x p.0 p.1 (subst (λ (l : List ℕ). Once l) p.2 once);
      at = at;
    }

-- an id from which there are some is among them
pub from-has : (x : ℕ) (xs : List ℕ) → Some x ≡ first_of (from (Some x) xs) → has x xs ≡ true
from-has x [] e = cc
from-has x (y ∷ ys) e = elim (eqb_tells y x) as (λ v. has x (y ∷ ys) ≡ true) [
  | inl t ↦ subst (λ (k : ℕ). has k (y ∷ ys) ≡ true) t.1 (has-first y ys)
  | inr f ↦ has-later x y ys (from-has x ys (e ∙ ap first_of (ap (λ (b : Bool). cond b (y ∷ ys) (from (Some x) ys)) f.0)))
]

-- one step of a walk, at an id
pub record IsWalked (o : Option ℕ) (id : ℕ) (xs : List ℕ) : Type 0 where
  pub has : has id xs ≡ true
  pub rest : List ℕ
  pub here : from o xs ≡ id ∷ rest
  pub next : from (behind id xs) xs ≡ rest
  pub at : behind id xs ≡ first_of (from (behind id xs) xs)

pub walked : (xs : List ℕ) (o : Option ℕ) (id : ℕ) → Once xs → o ≡ Some id → o ≡ first_of (from o xs) → IsWalked o id xs
walked xs o id once is at =
    let member = from-has id xs (sym is ∙ at ∙ ap (λ (p : Option ℕ). first_of (from p xs)) is) in
    let s = step id xs once member in
    record { has = member; rest = s.rest; here = ap (λ (p : Option ℕ). from p xs) is ∙ s.here; next = s.next; at = s.at ∙ ap first_of (sym s.next) }

pub walk-map : {X : Type 0} (f : ℕ → X) (xs : List ℕ) (o : Option ℕ) (id : ℕ) → IsWalked o id xs → map f (from o xs) ≡ f id ∷ map f (from (behind id xs) xs)
walk-map {X} f xs o id w = ap (map f) w.here ∙ ap (λ (ys : List ℕ). f id ∷ map f ys) (sym w.next)

pub walk-shorter : (xs : List ℕ) (o : Option ℕ) (id : ℕ) → IsWalked o id xs → length (from (behind id xs) xs) < length (from o xs)
walk-shorter xs o id w = let a = ap length w.here in let b = ap length w.next in omega (arith, a, b)

-- each id from one on stands there once
pub from-once : (o : Option ℕ) (xs : List ℕ) → Once xs → Once (from o xs)
from-once None xs once = tt
from-once (Some x) [] once = tt
from-once (Some x) (y ∷ ys) once = by-test (y == x) (from-once (Some x) ys once.1)
  where
    by-test : (b : Bool) → Once (from (Some x) ys) → Once (cond b (y ∷ ys) (from (Some x) ys))
    by-test true rest = once
    by-test false rest = rest

-- what is met later is another one, and was not met before
pub walk-later : (xs : List ℕ) (o : Option ℕ) (id : ℕ) → Once xs → IsWalked o id xs → (x : ℕ) → has x (from (behind id xs) xs) ≡ true → (x ≢ id) × (has x (from o xs) ≡ true)
walk-later xs o id once w x h =
    let later : has x w.rest ≡ true = subst (λ (ys : List ℕ). has x ys ≡ true) w.next h in
    let apart : has id w.rest ≡ false = (subst (λ (ys : List ℕ). Once ys) w.here (from-once o xs once)).0 in
    (λ e. has-both id w.rest (subst (λ (k : ℕ). has k w.rest ≡ true) e later) apart, subst (λ (ys : List ℕ). has x ys ≡ true) (sym w.here) (has-later x id w.rest later))

pub walk-filter : (p : ℕ → Bool) (xs : List ℕ) (o : Option ℕ) (id : ℕ) → IsWalked o id xs → filter p (from o xs) ≡ filter p (id ∷ from (behind id xs) xs)
walk-filter p xs o id w = ap (filter p) (w.here ∙ ap (λ (ys : List ℕ). id ∷ ys) (sym w.next))

pub walk-here : (xs : List ℕ) (o : Option ℕ) (id : ℕ) → IsWalked o id xs → has id (from o xs) ≡ true
walk-here xs o id w = subst (λ (ys : List ℕ). has id ys ≡ true) (sym w.here) (has-first id w.rest)

-- the threads that pass a test, from an id on
module _ (f : ℕ → Waiter) (p : Waiter → Bool) (xs : List ℕ) (o : Option ℕ) (id : ℕ) (w : IsWalked o id xs) where
  tested : (b : Bool) → p (f id) ≡ b → threads_of (filter p (map f (from o xs))) ≡ threads_of (cond b (f id ∷ filter p (map f (from (behind id xs) xs))) (filter p (map f (from (behind id xs) xs))))
  tested b h = ap (λ (ws : List Waiter). threads_of (filter p ws)) (walk-map f xs o id w) ∙ ap (λ (c : Bool). threads_of (cond c (f id ∷ filter p (map f (from (behind id xs) xs))) (filter p (map f (from (behind id xs) xs))))) h

  pub walk-here-at : (k : ℕ) → p (f id) ≡ true → k ≡ 0 → slice_get (threads_of (filter p (map f (from o xs)))) k ≡ Some (f id).thread
  walk-here-at k h e = ap (λ (n : ℕ). slice_get (threads_of (filter p (map f (from o xs)))) n) e ∙ ap (λ (ts : List ℕ). slice_get ts 0) (tested true h)

  pub walk-later-at : (k : ℕ) → p (f id) ≡ true → 0 < k → slice_get (threads_of (filter p (map f (from (behind id xs) xs)))) (k - 1) ≡ slice_get (threads_of (filter p (map f (from o xs)))) k
  walk-later-at zero h low = absurd (omega (arith, low))
  walk-later-at (suc k) h low =
      let same : suc k - 1 ≡ k = omega arith in
      ap (slice_get (threads_of (filter p (map f (from (behind id xs) xs))))) same ∙ sym (ap (λ (ts : List ℕ). slice_get ts (suc k)) (tested true h))

  pub walk-over-at : (k : ℕ) → p (f id) ≡ false → slice_get (threads_of (filter p (map f (from (behind id xs) xs)))) k ≡ slice_get (threads_of (filter p (map f (from o xs)))) k
  walk-over-at k h = sym (ap (λ (ts : List ℕ). slice_get ts k) (tested false h))
