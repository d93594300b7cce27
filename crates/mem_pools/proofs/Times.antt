-- How often a number stands in a list, and in lists of which two are changed.
use Rattle.std.proofs.Common.{◌≡◌, ◌≢◌, ◌⊎◌, ℕ, zero, suc, ◌+◌, ◌-◌, ◌<◌, ◌≤◌, List, [], ◌∷◌, ◌++◌, length, get_or, take, drop, cond, eqb, map, refl, ap, sym, ◌∙◌, arith, inl, inr}
use Rattle.std.specs.List.{sum_by}
use Rattle.std.proofs.Math.ListN.{set, length-set}
use Rattle.std.proofs.lemmas.List.{get_or-set_other, get_or-map, same_lists, map-set, length-map}
use Rattle.std.proofs.lemmas.Grind.{get_or-set_at}
use Rattle.std.proofs.lemmas.List.Sums.{sum_by-set, get_or-le-sum_by}
use Rattle.std.proofs.lemmas.Bool.{cases_eq}
use Rattle.std.proofs.lemmas.Bool.Decides.{nat_tests}
use Rattle.mem_pools.specs.Linked.{times}

pub times-append : (n : ℕ) (xs ys : List ℕ) → times n (xs ++ ys) ≡ times n xs + times n ys
times-append n [] ys = omega arith
times-append n (x ∷ xs) ys = omega (arith, times-append n xs ys)

-- what stands in a list stands there at least once
pub times-at : (xs : List ℕ) (k n : ℕ) → k < length xs → get_or xs k 0 ≡ n → 0 < times n xs
times-at [] k n h e = absurd (omega arith)
times-at (x ∷ xs) zero n h e = grind (arith, nat_tests)
times-at (x ∷ xs) (suc k) n h e = let rest : 0 < times n xs = times-at xs k n (omega arith) e in omega (arith, rest)

-- a number that is not in the list is none of its parts
pub times-cons_zero : (n x : ℕ) (xs : List ℕ) → times n (x ∷ xs) ≡ 0 → (x ≢ n) × (times n xs ≡ 0)
times-cons_zero n x xs h = (λ e. grind (arith, nat_tests), omega arith)

-- the numbers of two lists are within those of all
pub sum_by-apart : (f : List ℕ → ℕ) (xs : List (List ℕ)) (i j : ℕ) → f [] ≡ 0 → i < length xs → j < length xs → i ≢ j → f (get_or xs i []) + f (get_or xs j []) ≤ sum_by f xs
sum_by-apart f xs i j none hi hj apart =
    let cut = sum_by-set f xs j [] [] hj in
    let one = get_or-le-sum_by f (set xs j []) i [] (omega (arith, length-set xs j [])) in
    let same = get_or-set_other xs j i [] [] apart in
    let one' : f (get_or xs i []) ≤ sum_by f (set xs j []) = rw same at one in
    omega arith

-- two lists change, and together hold what they held
pub sum_by-set-set : (f : List ℕ → ℕ) (xs : List (List ℕ)) (i j : ℕ) (ys zs : List ℕ) → i < length xs → j < length xs → i ≢ j → f ys + f zs ≡ f (get_or xs i []) + f (get_or xs j []) → sum_by f (set (set xs i ys) j zs) ≡ sum_by f xs
sum_by-set-set f xs i j ys zs hi hj apart e =
    let first = sum_by-set f xs i ys [] hi in
    let second = sum_by-set f (set xs i ys) j zs [] (omega (arith, length-set xs i ys)) in
    let same : get_or (set xs i ys) j [] ≡ get_or xs j [] = get_or-set_other xs i j ys [] (λ q. apart (sym q)) in
    let second' : sum_by f (set (set xs i ys) j zs) + f (get_or xs j []) ≡ sum_by f (set xs i ys) + f zs = rw same at second in
    omega arith

-- two lists that agree but at two places, which are then written alike
pub set-set_agree : {B : Type 0} (xs ys : List B) (i j : ℕ) (p q : B) → length xs ≡ length ys → ((k : ℕ) (d : B) → k < length xs → k ≢ i → k ≢ j → get_or xs k d ≡ get_or ys k d) → set (set xs i p) j q ≡ set (set ys i p) j q
set-set_agree xs ys i j p q e same =
    same_lists _ _ (simp (length-set) e) (λ k d h.
    let h' : k < length xs = simp length-set at h in
    elim (cases_eq k j) [
      | inl here ↦ grind (arith, get_or-set_at, length-set)
      | inr other ↦ elim (cases_eq k i) [
        | inl here ↦ grind (arith, get_or-set_at, get_or-set_other (set xs i p) j k q d other, get_or-set_other (set ys i p) j k q d other, length-set)
        | inr next ↦ get_or-set_other (set xs i p) j k q d other ∙ get_or-set_other xs i k p d next ∙ same k d h' next other ∙ sym (get_or-set_other ys i k p d next) ∙ sym (get_or-set_other (set ys i p) j k q d other)
      ]
    ])

-- a map over a list of which two items are changed, where the map itself changes at these alone
pub map-set-set : {A B : Type 0} (f g : A → B) (xs : List A) (i j : ℕ) (y z : A) (p q : B) → ((k : ℕ) (d : A) → k < length xs → k ≢ i → k ≢ j → f (get_or xs k d) ≡ g (get_or xs k d)) → f y ≡ p → f z ≡ q → map f (set (set xs i y) j z) ≡ set (set (map g xs) i p) j q
map-set-set {A} {B} f g xs i j y z p q same ey ez =
    map-set f (set xs i y) j z ∙ ap (λ (l : List B). set l j (f z)) (map-set f xs i y) ∙ ap (λ (b : B). set (set (map f xs) i b) j (f z)) ey ∙ ap (λ (b : B). set (set (map f xs) i p) j b) ez
    ∙ set-set_agree (map f xs) (map g xs) i j p q (simp length-map) (λ k d h hi hj. mapped k d (simp length-map at h) hi hj)
  where
    mapped : (k : ℕ) (d : B) → k < length xs → k ≢ i → k ≢ j → get_or (map f xs) k d ≡ get_or (map g xs) k d
    mapped k d h hi hj = get_or-map f xs k y d h ∙ same k y h hi hj ∙ sym (get_or-map g xs k y d h)
