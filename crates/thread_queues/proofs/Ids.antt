-- Lists of ids, and what is kept for each.
use Rattle.std.proofs.Common.{◌≡◌, ◌≢◌, ◌∙◌, ℕ, zero, suc, ◌<◌, ◌==◌, Bool, true, false, cond, not, List, [], ◌∷◌, ◌++◌, map, refl, ap, sym, subst, arith, ◌⊎◌, inl, inr, Some}
use Rattle.std.specs.List.{filter, find, slice_get}
use Rattle.std.proofs.lemmas.Bool.Decides.{eqb_tells}
use Rattle.link_lists.specs.Lists.{has, Once, without}
use Rattle.link_lists.proofs.Members.{has-first, has-later, has-cons, has-both, not-has, same_test}
use Rattle.thread_queues.specs.Placed.{times, without_first}

-- a number is counted where something stands for it
pub times-has : (f : ℕ → ℕ) (xs : List ℕ) (x : ℕ) → has x xs ≡ true → 0 < times (f x) (map f xs)
times-has f [] x h = cc
times-has f (y ∷ ys) x h = elim (has-cons x y ys h) [
  | inl e ↦ let one : (f y == f x) ≡ true = ap (λ (k : ℕ). f y == f k) (sym e) ∙ same_test (f y) in
      let two : cond (f y == f x) 1 0 ≡ 1 = ap {B = ℕ} (λ (b : Bool). cond b 1 0) one in omega (arith, two)
  | inr r ↦ let more : 0 < times (f x) (map f ys) = times-has f ys x r in omega (arith, more)
]

pub has-times : (f : ℕ → ℕ) (xs : List ℕ) (t : ℕ) → 0 < times t (map f xs) → (x : ℕ) × (has x xs ≡ true) × (f x ≡ t)
has-times f [] t h = absurd (omega arith)
has-times f (y ∷ ys) t h = elim (eqb_tells (f y) t) [
  | inl e ↦ (y, has-first y ys, e.1)
  | inr ne ↦ let none : cond (f y == t) 1 0 ≡ 0 = ap {B = ℕ} (λ (b : Bool). cond b 1 0) ne.0 in
      let r = has-times f ys t (omega (arith, h, none)) in (r.0, has-later r.0 y ys r.1, r.2)
]

-- two functions that agree on a list
pub map-same : {X : Type 0} (f g : ℕ → X) (xs : List ℕ) → ((x : ℕ) → has x xs ≡ true → f x ≡ g x) → map f xs ≡ map g xs
map-same f g [] h = refl
map-same {X} f g (y ∷ ys) h =
    ap (λ (v : X). v ∷ map f ys) (h y (has-first y ys)) ∙ ap (λ (vs : List X). g y ∷ vs) (map-same f g ys (λ x k. h x (has-later x y ys k)))

pub filter-same : (p q : ℕ → Bool) (xs : List ℕ) → ((x : ℕ) → has x xs ≡ true → p x ≡ q x) → filter p xs ≡ filter q xs
filter-same p q [] h = refl
filter-same p q (y ∷ ys) h =
    ap (λ (b : Bool). cond b (y ∷ filter p ys) (filter p ys)) (h y (has-first y ys)) ∙ ap (λ (vs : List ℕ). cond (q y) (y ∷ vs) vs) (filter-same p q ys (λ x k. h x (has-later x y ys k)))

-- one more at the end
pub filter-end : (p : ℕ → Bool) (xs : List ℕ) (x : ℕ) → filter p (xs ++ x ∷ []) ≡ cond (p x) (filter p xs ++ x ∷ []) (filter p xs)
filter-end p [] x = refl
filter-end p (y ∷ ys) x = ap (λ (vs : List ℕ). cond (p y) (y ∷ vs) vs) (filter-end p ys x) ∙ pull (p y) (p x)
  where
    pull : (b c : Bool) → cond b (y ∷ cond c (filter p ys ++ x ∷ []) (filter p ys)) (cond c (filter p ys ++ x ∷ []) (filter p ys)) ≡ cond c (cond b (y ∷ filter p ys) (filter p ys) ++ x ∷ []) (cond b (y ∷ filter p ys) (filter p ys))
    pull true true = refl
    pull true false = refl
    pull false true = refl
    pull false false = refl

-- one out, before or after a test
pub filter-without : (p : ℕ → Bool) (x : ℕ) (xs : List ℕ) → filter p (without x xs) ≡ without x (filter p xs)
filter-without p x [] = refl
filter-without p x (y ∷ ys) = push (y == x) (p y) refl ∙ ap (λ (vs : List ℕ). cond (p y) (cond (not (y == x)) (y ∷ vs) vs) vs) (filter-without p x ys) ∙ pull (p y)
  where
    push : (b c : Bool) → (c ≡ p y) → filter p (cond (not b) (y ∷ without x ys) (without x ys)) ≡ cond c (cond (not b) (y ∷ filter p (without x ys)) (filter p (without x ys))) (filter p (without x ys))
    push true true e = refl
    push true false e = refl
    push false true e = ap (λ (d : Bool). cond d (y ∷ filter p (without x ys)) (filter p (without x ys))) (sym e)
    push false false e = ap (λ (d : Bool). cond d (y ∷ filter p (without x ys)) (filter p (without x ys))) (sym e)

    pull : (c : Bool) → cond c (cond (not (y == x)) (y ∷ without x (filter p ys)) (without x (filter p ys))) (without x (filter p ys)) ≡ without x (cond c (y ∷ filter p ys) (filter p ys))
    pull true = refl
    pull false = refl

pub without-none : (x : ℕ) (xs : List ℕ) → has x xs ≡ false → without x xs ≡ xs
without-none x [] h = refl
without-none x (y ∷ ys) h = elim (eqb_tells y x) as (λ v. without x (y ∷ ys) ≡ y ∷ ys) [
  | inl t ↦ absurd (has-both x (y ∷ ys) (subst (λ (k : ℕ). has k (y ∷ ys) ≡ true) t.1 (has-first y ys)) h)
  | inr f ↦ ap (λ (b : Bool). cond (not b) (y ∷ without x ys) (without x ys)) f.0
      ∙ ap (λ (v : List ℕ). y ∷ v) (without-none x ys (not-has x ys (λ k. has-both x (y ∷ ys) (has-later x y ys k) h)))
]

-- the only one that passes is found, and taken out
pub without-first-map : {X : Type 0} (f : ℕ → X) (p : X → Bool) (x : ℕ) (xs : List ℕ) → Once xs → has x xs ≡ true → p (f x) ≡ true → ((y : ℕ) → has y xs ≡ true → y ≢ x → p (f y) ≡ false)
    → map f (without x xs) ≡ without_first p (map f xs)
without-first-map f p x [] once h is others = cc
without-first-map {X} f p x (y ∷ ys) once h is others = elim (eqb_tells y x) as (λ v. map f (without x (y ∷ ys)) ≡ without_first p (map f (y ∷ ys))) [
  | inl t ↦ ap (λ (b : Bool). map f (cond (not b) (y ∷ without x ys) (without x ys))) t.0
      ∙ ap (map f) (without-none x ys (subst (λ (k : ℕ). has k ys ≡ false) t.1 once.0))
      ∙ sym (ap (λ (b : Bool). cond b (map f ys) (f y ∷ without_first p (map f ys))) (ap (λ (k : ℕ). p (f k)) t.1 ∙ is))
  | inr ne ↦ ap (λ (b : Bool). map f (cond (not b) (y ∷ without x ys) (without x ys))) ne.0
      ∙ ap (λ (v : List X). f y ∷ v) (without-first-map f p x ys once.1 (rest (has-cons x y ys h) ne.1) is (λ z k. others z (has-later z y ys k)))
      ∙ sym (ap (λ (b : Bool). cond b (map f ys) (f y ∷ without_first p (map f ys))) (others y (has-first y ys) ne.1))
]
  where
    rest : (y ≡ x) ⊎ (has x ys ≡ true) → (y ≡ x → ⊥) → has x ys ≡ true
    rest (inl e) n = absurd (n e)
    rest (inr r) n = r

pub find-map : {X : Type 0} (f : ℕ → X) (p : X → Bool) (x : ℕ) (xs : List ℕ) → has x xs ≡ true → p (f x) ≡ true → ((y : ℕ) → has y xs ≡ true → y ≢ x → p (f y) ≡ false) → find p (map f xs) ≡ Some (f x)
find-map f p x [] h is others = cc
find-map {X} f p x (y ∷ ys) h is others = elim (eqb_tells y x) as (λ v. find p (map f (y ∷ ys)) ≡ Some (f x)) [
  | inl t ↦ ap (λ (b : Bool). cond b (Some (f y)) (find p (map f ys))) (ap (λ (k : ℕ). p (f k)) t.1 ∙ is) ∙ ap (λ (k : ℕ). Some (f k)) t.1
  | inr ne ↦ ap (λ (b : Bool). cond b (Some (f y)) (find p (map f ys))) (others y (has-first y ys) ne.1)
      ∙ find-map f p x ys (rest (has-cons x y ys h) ne.1) is (λ z k. others z (has-later z y ys k))
]
  where
    rest : (y ≡ x) ⊎ (has x ys ≡ true) → (y ≡ x → ⊥) → has x ys ≡ true
    rest (inl e) n = absurd (n e)
    rest (inr r) n = r

-- what is among a list has a place in it
pub get-has : {X : Type 0} (f : ℕ → X) (xs : List ℕ) (x : ℕ) → has x xs ≡ true → (k : ℕ) × (slice_get (map f xs) k ≡ Some (f x))
get-has f [] x h = cc
get-has {X} f (y ∷ ys) x h = elim (eqb_tells y x) [
  | inl t ↦ (0, ap (λ (k : ℕ). Some (f k)) t.1)
  | inr ne ↦ let r = get-has f ys x (later (has-cons x y ys h) ne.1) in (suc r.0, r.1)
]
  where
    later : (y ≡ x) ⊎ (has x ys ≡ true) → (y ≡ x → ⊥) → has x ys ≡ true
    later (inl e) n = absurd (n e)
    later (inr r) n = r

pub has-get : {X : Type 0} (f : ℕ → X) (xs : List ℕ) (k : ℕ) (w : X) → slice_get (map f xs) k ≡ Some w → (x : ℕ) × (has x xs ≡ true) × (f x ≡ w)
has-get f [] k w e = cc
has-get f (y ∷ ys) zero w e = (y, has-first y ys, some-same e)
  where
    some-same : {X : Type 0} {a b : X} → Some a ≡ Some b → a ≡ b
    some-same e = cc
has-get f (y ∷ ys) (suc k) w e = let r = has-get f ys k w e in (r.0, has-later r.0 y ys r.1, r.2)
