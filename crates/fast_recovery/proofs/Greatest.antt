-- The greatest table number among the owners of pages.
use Rattle.std.proofs.Common.{◌≡◌, ℕ, zero, suc, ◌≤◌, ◌<◌, max, refl, ap, sym, Bool, true, false, cond, List, [], ◌∷◌, ◌⊎◌, inl, inr, arith, Some}
use Rattle.std.specs.List.{slice_get}
use Rattle.std.specs.Map.{lookup}
use Rattle.std.proofs.lemmas.Bool.{cases_order}

abbrev pub Entry : Type 0
Entry = ℕ × (ℕ × ℕ)

-- the greatest of a number and those of the entries
abbrev pub greatest_from : ℕ → List Entry → ℕ
greatest_from n [] = n
greatest_from n (e ∷ es) = greatest_from (max n e.1.0) es

pub above-first : (n : ℕ) (es : List Entry) → n ≤ greatest_from n es
above-first n [] = omega arith
above-first n (e ∷ es) = let more = above-first (max n e.1.0) es in omega (arith, above-first (max n e.1.0) es)

pub above-each : (n : ℕ) (es : List Entry) (test : ℕ → Bool) (o : ℕ × ℕ) → lookup test es ≡ Some o → o.0 ≤ greatest_from n es
above-each n [] test o is = cc
above-each n (e ∷ es) test o is = at (test e.0) is (above-each (max n e.1.0) es test o)
  where
    at : (b : Bool) → cond b (Some e.1) (lookup test es) ≡ Some o → (lookup test es ≡ Some o → o.0 ≤ greatest_from (max n e.1.0) es) → o.0 ≤ greatest_from (max n e.1.0) es
    at true h f = let same : e.1 ≡ o = cc in let first : e.1.0 ≡ o.0 = ap (λ p. p.0) same in omega (arith, above-first (max n e.1.0) es, first)
    at false h f = f h

-- it is the first number, or one of them
pub one-of : (n : ℕ) (es : List Entry) → (greatest_from n es ≡ n) ⊎ ((i : ℕ) × (page : ℕ) × (length : ℕ) × (slice_get es i ≡ Some (page, (greatest_from n es, length))))
one-of n [] = inl refl
one-of n (e ∷ es) = at (cases_order n e.1.0) (one-of (max n e.1.0) es)
  where
    at : ((n ≡ e.1.0) ⊎ ((n < e.1.0) ⊎ (e.1.0 < n))) → ((greatest_from (max n e.1.0) es ≡ max n e.1.0) ⊎ ((i : ℕ) × (page : ℕ) × (length : ℕ) × (slice_get es i ≡ Some (page, (greatest_from (max n e.1.0) es, length)))))
        → (greatest_from (max n e.1.0) es ≡ n) ⊎ ((i : ℕ) × (page : ℕ) × (length : ℕ) × (slice_get (e ∷ es) i ≡ Some (page, (greatest_from (max n e.1.0) es, length))))
    at o (inr f) = inr (suc f.0, f.1, f.2, f.3)
    at (inl same) (inl h) = inl (omega (arith, h, same))
    at (inr (inl up)) (inl h) = let is : greatest_from (max n e.1.0) es ≡ e.1.0 = omega (arith, h, up) in
        inr (zero, e.0, e.1.1, λ i. Some (e.0, (sym is i, e.1.1)))
    at (inr (inr down)) (inl h) = inl (omega (arith, h, down))
