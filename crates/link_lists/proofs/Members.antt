-- What is among a list of ids, and lists in which none stands twice.
use Rattle.std.proofs.Common.{◌≡◌, ◌≢◌, ◌∙◌, sym, ap, subst, refl, ℕ, ◌<◌, ◌≤◌, ◌==◌, Bool, true, false, cond, ◌||◌, not, List, [], ◌∷◌, ◌++◌, length, ◌⊎◌, inl, inr}
use Rattle.std.specs.List.{list_any, AllByRecursion}
use Rattle.std.specs.List.{IsDistinct}
use Rattle.std.proofs.lemmas.Bool.Decides.{eqb_tells, Decides-eqb}
use Rattle.std.proofs.lemmas.Map.Steps.{length-le_from_distinct_below}
use Rattle.link_lists.specs.Lists.{has, Once}
use Rattle.link_lists.specs.Lists.{without, put_before}

pub same_test : (x : ℕ) → (x == x) ≡ true
same_test x = (Decides-eqb x x).1 refl

pub other_test : (x y : ℕ) → x ≢ y → (x == y) ≡ false
other_test x y ne = elim (eqb_tells x y) as (λ v. (x == y) ≡ false) [ inl t ↦ absurd (ne t.1) | inr f ↦ f.0 ]

-- by cases on whether x is the first
pub has-cons : (x y : ℕ) (ys : List ℕ) → has x (y ∷ ys) ≡ true → (y ≡ x) ⊎ (has x ys ≡ true)
has-cons x y ys h = elim (eqb_tells y x) as (λ v. (y ≡ x) ⊎ (has x ys ≡ true))
    [ inl t ↦ inl t.1 | inr f ↦ inr (subst (λ b. (b || has x ys) ≡ true) f.0 h) ]

pub has-first : (x : ℕ) (ys : List ℕ) → has x (x ∷ ys) ≡ true
has-first x ys = ap (λ b. b || has x ys) (same_test x)

or-right : (b c : Bool) → c ≡ true → (b || c) ≡ true
or-right true c h = refl
or-right false c h = h

pub has-later : (x y : ℕ) (ys : List ℕ) → has x ys ≡ true → has x (y ∷ ys) ≡ true
has-later x y ys h = or-right (y == x) (has x ys) h

pub has-append : (x : ℕ) (ys zs : List ℕ) → has x (ys ++ zs) ≡ true → (has x ys ≡ true) ⊎ (has x zs ≡ true)
has-append x [] zs h = inr h
has-append x (y ∷ ys) zs h = elim (has-cons x y (ys ++ zs) h) as (λ v. (has x (y ∷ ys) ≡ true) ⊎ (has x zs ≡ true)) [
  | inl e ↦ inl (subst (λ k. has k (y ∷ ys) ≡ true) e (has-first y ys))
  | inr r ↦ elim (has-append x ys zs r) as (λ v. (has x (y ∷ ys) ≡ true) ⊎ (has x zs ≡ true)) [ inl a ↦ inl (has-later x y ys a) | inr b ↦ inr b ]
]

pub has-left : (x : ℕ) (ys zs : List ℕ) → has x ys ≡ true → has x (ys ++ zs) ≡ true
has-left x [] zs h = cc
has-left x (y ∷ ys) zs h = elim (has-cons x y ys h) as (λ v. has x (y ∷ (ys ++ zs)) ≡ true)
    [ inl e ↦ subst (λ k. has k (y ∷ (ys ++ zs)) ≡ true) e (has-first y (ys ++ zs)) | inr r ↦ has-later x y (ys ++ zs) (has-left x ys zs r) ]

pub has-right : (x : ℕ) (ys zs : List ℕ) → has x zs ≡ true → has x (ys ++ zs) ≡ true
has-right x [] zs h = h
has-right x (y ∷ ys) zs h = has-later x y (ys ++ zs) (has-right x ys zs h)

-- not among them
pub not-has : (x : ℕ) (xs : List ℕ) → (has x xs ≡ true → ⊥) → has x xs ≡ false
not-has x xs never = elim (has x xs) as (λ b. (b ≡ true → ⊥) → b ≡ false) [ true ↦ (λ f. absurd (f refl)) | false ↦ (λ f. refl) ] never

pub has-both : (x : ℕ) (xs : List ℕ) → has x xs ≡ true → has x xs ≡ false → ⊥
has-both x xs t f = cc

-- one more between two parts
pub has-put : (x id : ℕ) (ys zs : List ℕ) → has x (ys ++ id ∷ zs) ≡ true → (id ≡ x) ⊎ (has x (ys ++ zs) ≡ true)
has-put x id ys zs h = elim (has-append x ys (id ∷ zs) h) as (λ v. (id ≡ x) ⊎ (has x (ys ++ zs) ≡ true)) [
  | inl a ↦ inr (has-left x ys zs a)
  | inr b ↦ elim (has-cons x id zs b) as (λ v. (id ≡ x) ⊎ (has x (ys ++ zs) ≡ true)) [ inl e ↦ inl e | inr r ↦ inr (has-right x ys zs r) ]
]

pub has-kept : (x id : ℕ) (ys zs : List ℕ) → has x (ys ++ zs) ≡ true → has x (ys ++ id ∷ zs) ≡ true
has-kept x id ys zs h = elim (has-append x ys zs h) as (λ v. has x (ys ++ id ∷ zs) ≡ true)
    [ inl a ↦ has-left x ys (id ∷ zs) a | inr b ↦ has-right x ys (id ∷ zs) (has-later x id zs b) ]

pub has-middle : (id : ℕ) (ys zs : List ℕ) → has id (ys ++ id ∷ zs) ≡ true
has-middle id ys zs = has-right id ys (id ∷ zs) (has-first id zs)

-- ---- once
pub once-put : (id : ℕ) (ys zs : List ℕ) → Once (ys ++ zs) → has id (ys ++ zs) ≡ false → Once (ys ++ id ∷ zs)
once-put id [] zs o n = (n, o)
once-put id (y ∷ ys) zs o n = (
  not-has y (ys ++ id ∷ zs) (λ h. elim (has-put y id ys zs h) as (λ v. ⊥) [
    | inl e ↦ has-both id (y ∷ (ys ++ zs)) (subst (λ k. has k (y ∷ (ys ++ zs)) ≡ true) (sym e) (has-first y (ys ++ zs))) n
    | inr r ↦ has-both y (ys ++ zs) r o.0
  ]),
  once-put id ys zs o.1 (not-has id (ys ++ zs) (λ h. has-both id (y ∷ (ys ++ zs)) (has-later id y (ys ++ zs) h) n)),
)

pub once-taken : (id : ℕ) (ys zs : List ℕ) → Once (ys ++ id ∷ zs) → Once (ys ++ zs)
once-taken id [] zs o = o.1
once-taken id (y ∷ ys) zs o = (not-has y (ys ++ zs) (λ h. has-both y (ys ++ id ∷ zs) (has-kept y id ys zs h) o.0), once-taken id ys zs o.1)

-- what stands in the middle stands nowhere else
pub once-middle : (id : ℕ) (ys zs : List ℕ) → Once (ys ++ id ∷ zs) → has id (ys ++ zs) ≡ false
once-middle id [] zs o = o.0
once-middle id (y ∷ ys) zs o = not-has id (y ∷ (ys ++ zs)) (λ h. elim (has-cons id y (ys ++ zs) h) as (λ v. ⊥) [
  | inl e ↦ has-both y (ys ++ id ∷ zs) (subst (λ k. has k (ys ++ id ∷ zs) ≡ true) (sym e) (has-middle id ys zs)) o.0
  | inr r ↦ has-both id (ys ++ zs) r (once-middle id ys zs o.1)
])

pub once-left : (ys zs : List ℕ) → Once (ys ++ zs) → Once ys
once-left [] zs o = tt
once-left (y ∷ ys) zs o = (not-has y ys (λ h. has-both y (ys ++ zs) (has-left y ys zs h) o.0), once-left ys zs o.1)

pub once-right : (ys zs : List ℕ) → Once (ys ++ zs) → Once zs
once-right [] zs o = o
once-right (y ∷ ys) zs o = once-right ys zs o.1

pub once-apart : (x : ℕ) (ys zs : List ℕ) → Once (ys ++ zs) → has x ys ≡ true → has x zs ≡ true → ⊥
once-apart x [] zs o h k = cc
once-apart x (y ∷ ys) zs o h k = elim (has-cons x y ys h) as (λ v. ⊥) [
  | inl e ↦ has-both y (ys ++ zs) (subst (λ j. has j (ys ++ zs) ≡ true) (sym e) (has-right x ys zs k)) o.0
  | inr r ↦ once-apart x ys zs o.1 r k
]

-- ---- the parts round an id
pub parts-at : (x : ℕ) (xs : List ℕ) → has x xs ≡ true → (ys : List ℕ) × (zs : List ℕ) × (xs ≡ ys ++ x ∷ zs)
parts-at x [] h = cc
parts-at x (y ∷ xs) h = elim (has-cons x y xs h) as (λ v. (ys : List ℕ) × (zs : List ℕ) × (y ∷ xs ≡ ys ++ x ∷ zs)) [
  | inl e ↦ ([], xs, ap (λ k. k ∷ xs) e)
  | inr r ↦ let p = parts-at x xs r in (y ∷ p.0, p.1, ap (λ v. y ∷ v) p.2)
]

without-none : (x : ℕ) (ys : List ℕ) → has x ys ≡ false → without x ys ≡ ys
without-none x [] h = refl
without-none x (y ∷ ys) h = elim (eqb_tells y x) as (λ v. without x (y ∷ ys) ≡ y ∷ ys) [
  | inl t ↦ absurd (has-both x (y ∷ ys) (subst (λ k. has k (y ∷ ys) ≡ true) t.1 (has-first y ys)) h)
  | inr f ↦ ap (λ b. cond (not b) (y ∷ without x ys) (without x ys)) f.0
      ∙ ap (λ v. y ∷ v) (without-none x ys (not-has x ys (λ k. has-both x (y ∷ ys) (has-later x y ys k) h)))
]

pub without-parts : (x : ℕ) (ys zs : List ℕ) → has x (ys ++ zs) ≡ false → without x (ys ++ x ∷ zs) ≡ ys ++ zs
without-parts x [] zs h = ap (λ b. cond (not b) (x ∷ without x zs) (without x zs)) (same_test x) ∙ without-none x zs h
without-parts x (y ∷ ys) zs h = elim (eqb_tells y x) as (λ v. without x (y ∷ (ys ++ x ∷ zs)) ≡ y ∷ (ys ++ zs)) [
  | inl t ↦ absurd (has-both x (y ∷ (ys ++ zs)) (subst (λ k. has k (y ∷ (ys ++ zs)) ≡ true) t.1 (has-first y (ys ++ zs))) h)
  | inr f ↦ ap (λ b. cond (not b) (y ∷ without x (ys ++ x ∷ zs)) (without x (ys ++ x ∷ zs))) f.0
      ∙ ap (λ v. y ∷ v) (without-parts x ys zs (not-has x (ys ++ zs) (λ k. has-both x (y ∷ (ys ++ zs)) (has-later x y (ys ++ zs) k) h)))
]

pub put-parts : (next x : ℕ) (ys zs : List ℕ) → has next ys ≡ false → put_before next x (ys ++ next ∷ zs) ≡ ys ++ x ∷ next ∷ zs
put-parts next x [] zs h = ap (λ b. cond b (x ∷ next ∷ zs) (next ∷ put_before next x zs)) (same_test next)
put-parts next x (y ∷ ys) zs h = elim (eqb_tells y next) as (λ v. put_before next x (y ∷ (ys ++ next ∷ zs)) ≡ y ∷ (ys ++ x ∷ next ∷ zs)) [
  | inl t ↦ absurd (has-both next (y ∷ ys) (subst (λ k. has k (y ∷ ys) ≡ true) t.1 (has-first y ys)) h)
  | inr f ↦ ap (λ b. cond b (x ∷ y ∷ (ys ++ next ∷ zs)) (y ∷ put_before next x (ys ++ next ∷ zs))) f.0
      ∙ ap (λ v. y ∷ v) (put-parts next x ys zs (not-has next ys (λ k. has-both next (y ∷ ys) (has-later next y ys k) h)))
]

-- ---- how many
abbrev distinct-test : ℕ → List ℕ → Type 0
distinct-test x xs = AllByRecursion (λ y. (x == y) ≡ false) xs

apart-all : (x : ℕ) (xs : List ℕ) → has x xs ≡ false → distinct-test x xs
apart-all x [] h = tt
apart-all x (y ∷ xs) h = (
  other_test x y (λ e. has-both x (y ∷ xs) (subst (λ k. has k (y ∷ xs) ≡ true) (sym e) (has-first y xs)) h),
  apart-all x xs (not-has x xs (λ k. has-both x (y ∷ xs) (has-later x y xs k) h)),
)

distinct : (xs : List ℕ) → Once xs → IsDistinct (λ x y. x == y) xs
unfolding IsDistinct
distinct [] o = tt
distinct (x ∷ xs) o = (apart-all x xs o.0, distinct xs o.1)

-- numbers below n, none twice, are at most n
pub once-few : (xs : List ℕ) (n : ℕ) → Once xs → ((q : ℕ) → has q xs ≡ true → q < n) → length xs ≤ n
once-few xs n o below = length-le_from_distinct_below xs n (distinct xs o) (λ q h. below q (turned q xs h))
  where
    turned : (q : ℕ) (xs : List ℕ) → list_any (λ y. q == y) xs ≡ true → has q xs ≡ true
    turned q [] h = h
    turned q (y ∷ xs) h = elim (eqb_tells q y) as (λ v. has q (y ∷ xs) ≡ true) [
      | inl t ↦ subst (λ k. has k (y ∷ xs) ≡ true) (sym t.1) (has-first y xs)
      | inr f ↦ has-later q y xs (turned q xs (subst (λ b. (b || list_any (λ v. q == v) xs) ≡ true) f.0 h))
    ]
