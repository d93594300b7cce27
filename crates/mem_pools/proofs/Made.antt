-- The chains that are made: every block in the first one.
use Rattle.std.proofs.Common.{◌≡◌, ◌≢◌, ◌⊎◌, ℕ, zero, suc, ◌+◌, ◌-◌, ◌<◌, ◌≤◌, ◌^◌, List, [], ◌∷◌, ◌++◌, length, get_or, take, drop, cond, ltb, eqb, map, refl, ap, sym, subst, ◌∙◌, arith, inl, inr, replicate, add-one}
use Rattle.std.specs.List.{sum_by, range_with_len}
use Rattle.std.proofs.lemmas.List.{get_or-replicate, length-replicate}
use Rattle.std.proofs.lemmas.List.FromFn.{length-range_with_len, get_or-range_with_len}
use Rattle.std.proofs.lemmas.List.Sums.{sum_by-cons}
use Rattle.std.proofs.lemmas.Bool.{cases_eq}
use Rattle.std.proofs.lemmas.Bool.Decides.{nat_tests}
use Rattle.mem_pools.specs.Linked.{Linked, all_free, times}
use Rattle.mem_pools.specs.Links.{walk, chain_of, linked_of, IsLinked}
use Rattle.mem_pools.specs.declared.chains.Ends.{Ends}

-- one more number behind a range
pub range-push : (a n : ℕ) → range_with_len a (suc n) ≡ range_with_len a n ++ (a + n) ∷ []
range-push a zero = let e : a ≡ a + 0 = omega arith in ap (λ (x : ℕ). x ∷ []) e
range-push a (suc n) = let e : a + 1 + n ≡ a + suc n = omega arith in ap (λ (xs : List ℕ). a ∷ xs) (range-push (a + 1) n ∙ ap (λ (x : ℕ). range_with_len (a + 1) n ++ x ∷ []) e)

-- where each block is linked to the next, a walk goes over the numbers in order
walk-range : (n m b : ℕ) → b + m ≤ n → walk (range_with_len 1 n) m b ≡ range_with_len b m
walk-range n zero b h = refl
walk-range n (suc m) b h =
    let next : get_or (range_with_len 1 n) b 0 ≡ b + 1 = omega (arith, get_or-range_with_len 1 n b 0 (omega arith)) in
    rw next (ap (λ (xs : List ℕ). b ∷ xs) (walk-range n m (b + 1) (omega arith)))

times-below : (k a n : ℕ) → k < a → times k (range_with_len a n) ≡ 0
times-below k a zero h = refl
times-below k a (suc n) h = let rest = times-below k (a + 1) n (omega arith) in grind (arith, nat_tests)

times-range : (k a n : ℕ) → a ≤ k → times k (range_with_len a n) ≡ cond (ltb k (a + n)) 1 0
times-range k a zero h = grind (arith, nat_tests)
times-range k a (suc n) h =
    elim (cases_eq a k) [
      | inl here ↦ let rest = times-below k (a + 1) n (omega arith) in grind (arith, nat_tests)
      | inr off ↦ let rest = times-range k (a + 1) n (omega arith) in grind (arith, nat_tests)
    ]

none-of : (f : List ℕ → ℕ) (n : ℕ) → f [] ≡ 0 → sum_by f (replicate n []) ≡ 0
none-of f zero e = refl
none-of f (suc n) e = sum_by-cons f [] (replicate n []) ∙ omega (arith, none-of f n e, e)

abbrev pub nothing : Ends
nothing = record { first = 0; last = 0; count = 0 }

chains-replicate : (next : List ℕ) (n : ℕ) → map (chain_of next) (replicate n nothing) ≡ replicate n []
chains-replicate next zero = refl
chains-replicate next (suc n) = ap (λ (xs : List (List ℕ)). [] ∷ xs) (chains-replicate next n)

pub linked-made : (n m last : ℕ) → linked_of (range_with_len 1 n) (record { first = 0; last = last; count = n } ∷ replicate m nothing) ≡ all_free n m
linked-made n m last =
    let blocks = length-range_with_len 1 n in
    let first = walk-range n n 0 (omega arith) in
    let others = chains-replicate (range_with_len 1 n) m in
    cc

pub IsLinked-made : (n m last : ℕ) → n < 2 ^ 32 → (0 < n → last + 1 ≡ n) → IsLinked (range_with_len 1 n) (record { first = 0; last = last; count = n } ∷ replicate m nothing)
IsLinked-made n m last small is = record {
  small = omega (arith, length-range_with_len 1 n);
  once = λ k. lists (times k) ∙ omega (arith, none-of (times k) m refl) ∙ times-range k 0 n (omega arith) ∙ ap (λ (b : ℕ). cond (ltb k b) 1 0) (omega (arith, length-range_with_len 1 n));
  all = lists length ∙ omega (arith, none-of length m refl, length-range_with_len 0 n, length-range_with_len 1 n);
  ends_known = known;
}
  where
    lists : (f : List ℕ → ℕ) → sum_by f (map (chain_of (range_with_len 1 n)) (record { first = 0; last = last; count = n } ∷ replicate m nothing)) ≡ f (range_with_len 0 n) + sum_by f (replicate m [])
    lists f = ap (sum_by f) (ap (λ (l : Linked). l.lists) (linked-made n m last)) ∙ sum_by-cons f (range_with_len 0 n) (replicate m [])

    known : (k : ℕ) (d : Ends) → k < length (record { first = 0; last = last; count = n } ∷ replicate m nothing) → 0 < (get_or (record { first = 0; last = last; count = n } ∷ replicate m nothing) k d).count → get_or (chain_of (range_with_len 1 n) (get_or (record { first = 0; last = last; count = n } ∷ replicate m nothing) k d)) ((get_or (record { first = 0; last = last; count = n } ∷ replicate m nothing) k d).count - 1) 0 ≡ (get_or (record { first = 0; last = last; count = n } ∷ replicate m nothing) k d).last
    known zero d h some = ap (λ (xs : List ℕ). get_or xs (n - 1) 0) (walk-range n n 0 (omega arith)) ∙ omega (arith, get_or-range_with_len 0 n (n - 1) 0 (omega arith), is some)
    known (suc k) d h some =
        let at : get_or (replicate m nothing) k d ≡ nothing = get_or-replicate m k nothing d (omega (arith, h, length-replicate m nothing)) in
        let none : (get_or (replicate m nothing) k d).count ≡ 0 = ap (λ (e : Ends). e.count) at in
        absurd (omega (arith, none, some))

pub range-more : (n x : ℕ) → x ≡ n + 1 → range_with_len 1 n ++ x ∷ [] ≡ range_with_len 1 (n + 1)
range-more n x e = rw (e, add-one) (let e' : n + 1 ≡ 1 + n = omega arith in ap (λ (y : ℕ). range_with_len 1 n ++ y ∷ []) (omega arith) ∙ sym (range-push 1 n))
