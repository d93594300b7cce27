-- Elements at places of a list.
use Rattle.std.proofs.Common.{◌≡◌, ◌∙◌, sym, ap, subst, refl, ℕ, zero, suc, ◌+◌, ◌<◌, List, [], ◌∷◌, ◌++◌, length, slice_index, slice_index_or, slice_set, arith, ◌⊎◌, inl, inr}
use Rattle.std.proofs.lemmas.List.{length-append, get_or_append_left, get_or-append-add}
use Rattle.wait_graph.specs.Reached.{IsAt}

pub at-same : {A : Type 0} (xs : List A) (i : ℕ) (x y : A) → IsAt xs i x → IsAt xs i y → x ≡ y
at-same [] i x y a b = absurd (let l = a.0 in omega (arith, l))
at-same (z ∷ zs) zero x y a b = sym a.1 ∙ b.1
at-same (z ∷ zs) (suc i) x y a b = at-same zs i x y ((let l = a.0 in omega (arith, l)), a.1) ((let l = b.0 in omega (arith, l)), b.1)

pub at-read : {A : Type 0} (xs : List A) (i : ℕ) (d : A) → i < length xs → IsAt xs i (slice_index_or xs i d)
at-read [] i d lt = absurd (omega arith)
at-read (x ∷ xs) zero d lt = (lt, refl)
at-read (x ∷ xs) (suc i) d lt = (lt, (at-read xs i d (omega arith)).1)

pub at-left : {A : Type 0} (xs ys : List A) (i : ℕ) (x : A) → IsAt xs i x → IsAt (xs ++ ys) i x
at-left xs ys i x a = ((let l = a.0 in let e = length-append xs ys in omega (arith, l, e)), get_or_append_left xs ys x i a.0 ∙ a.1)

pub at-right : {A : Type 0} (xs ys : List A) (i : ℕ) (x : A) → IsAt ys i x → IsAt (xs ++ ys) (length xs + i) x
at-right xs ys i x a = ((let l = a.0 in let e = length-append xs ys in omega (arith, l, e)), get_or-append-add xs ys i x ∙ a.1)

pub at-middle : {A : Type 0} (xs : List A) (x : A) (ys : List A) → IsAt (xs ++ x ∷ ys) (length xs) x
at-middle [] x ys = (omega arith, refl)
at-middle (z ∷ xs) x ys = let a = at-middle xs x ys in ((let l = a.0 in omega (arith, l)), a.1)

-- on the left, or on the right
pub record IsBehind {A : Type 0} (xs ys : List A) (i : ℕ) (x : A) : Type 0 where
  pub place : ℕ
  pub behind : i ≡ length xs + place
  pub there : IsAt ys place x

pub at-either : {A : Type 0} (xs ys : List A) (i : ℕ) (x : A) → IsAt (xs ++ ys) i x → IsAt xs i x ⊎ IsBehind xs ys i x
at-either [] ys i x a = inr (record { place = i; behind = omega arith; there = a })
at-either (z ∷ xs) ys zero x a = inl (omega arith, a.1)
at-either (z ∷ xs) ys (suc i) x a = elim (at-either xs ys i x ((let l = a.0 in omega (arith, l)), a.1)) as (λ v. IsAt (z ∷ xs) (suc i) x ⊎ IsBehind (z ∷ xs) ys (suc i) x) [
  | inl l ↦ inl ((let q = l.0 in omega (arith, q)), l.1)
  | inr r ↦ inr (record { place = r.place; behind = (let e = r.behind in omega (arith, e)); there = r.there })
]

pub at-push : {A : Type 0} (xs : List A) (y : A) (i : ℕ) (x : A) → IsAt (xs ++ y ∷ []) i x → IsAt xs i x ⊎ ((i ≡ length xs) × (x ≡ y))
at-push xs y i x a = elim (at-either xs (y ∷ []) i x a) as (λ v. IsAt xs i x ⊎ ((i ≡ length xs) × (x ≡ y)))
    [ inl l ↦ inl l | inr r ↦ (let z : r.place ≡ 0 = (let l = r.there.0 in omega (arith, l)) in inr ((let e = r.behind in omega (arith, e, z)), sym (at-same (y ∷ []) 0 y x (omega arith, refl) (subst (λ n. IsAt (y ∷ []) n x) z r.there)))) ]

-- a list parted by an element of it
pub record Parts {A : Type 0} (xs : List A) (i : ℕ) (x : A) : Type 0 where
  pub before : List A
  pub after : List A
  pub stands : xs ≡ before ++ x ∷ after
  pub size : length before ≡ i

pub at-parts : {A : Type 0} (xs : List A) (i : ℕ) (x : A) → IsAt xs i x → Parts xs i x
at-parts [] i x a = absurd (let l = a.0 in omega (arith, l))
at-parts (y ∷ ys) zero x a = record { before = []; after = ys; stands = ap (λ v. v ∷ ys) a.1; size = refl }
at-parts (y ∷ ys) (suc i) x a =
    let p = at-parts ys i x ((let l = a.0 in omega (arith, l)), a.1) in
    record { before = y ∷ p.before; after = p.after; stands = ap (λ v. y ∷ v) p.stands; size = (let e = p.size in omega (arith, e)) }

pub at-set : {A : Type 0} (xs : List A) (i : ℕ) (y : A) (j : ℕ) (x : A) → IsAt (slice_set xs i y) j x → ((j ≡ i) × (x ≡ y)) ⊎ IsAt xs j x
at-set [] i y j x a = inr a
at-set (z ∷ xs) zero y zero x a = inl (refl, sym a.1)
at-set (z ∷ xs) zero y (suc j) x a = inr a
at-set (z ∷ xs) (suc i) y zero x a = inr (omega arith, a.1)
at-set (z ∷ xs) (suc i) y (suc j) x a = elim (at-set xs i y j x ((let l = a.0 in omega (arith, l)), a.1)) as (λ v. ((suc j ≡ suc i) × (x ≡ y)) ⊎ IsAt (z ∷ xs) (suc j) x)
    [ inl s ↦ inl ((let e = s.0 in omega (arith, e)), s.1) | inr o ↦ inr ((let l = o.0 in omega (arith, l)), o.1) ]

pub read-set : (xs : List ℕ) (i y j : ℕ) → ((j ≡ i) × (slice_index (slice_set xs i y) j ≡ y)) ⊎ (slice_index (slice_set xs i y) j ≡ slice_index xs j)
read-set [] i y j = inr refl
read-set (z ∷ xs) zero y zero = inl (refl, refl)
read-set (z ∷ xs) zero y (suc j) = inr refl
read-set (z ∷ xs) (suc i) y zero = inr refl
read-set (z ∷ xs) (suc i) y (suc j) = elim (read-set xs i y j) as (λ v. ((suc j ≡ suc i) × (slice_index (slice_set xs i y) j ≡ y)) ⊎ (slice_index (slice_set xs i y) j ≡ slice_index xs j))
    [ inl s ↦ inl ((let e = s.0 in omega (arith, e)), s.1) | inr o ↦ inr o ]
