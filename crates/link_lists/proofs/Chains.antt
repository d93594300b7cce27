-- Chains of links: their parts, and what is left of one where links are changed.
use Rattle.std.proofs.Common.{◌≡◌, ◌≢◌, ◌∙◌, sym, ap, subst, refl, ℕ, zero, suc, ◌<◌, ◌≤◌, true, false, cond, List, [], ◌∷◌, ◌++◌, length, arith, nat_lt}
use Rattle.std.proofs.lemmas.Bool.Decides.{nat_tests}
use Rattle.link_lists.specs.Rings.{Chain, walk}
use Rattle.link_lists.specs.Lists.{has, Once}
use Rattle.link_lists.proofs.Members.{has-first, has-later, has-both}

-- the first of a list, or b
abbrev pub first_or : ℕ → List ℕ → ℕ
first_or b [] = b
first_or b (x ∷ xs) = x

module _ (next prev : ℕ → ℕ) where
  -- the chain from the first of these on
  abbrev pub Rest : List ℕ → ℕ → Type 0
  Rest [] b = Unit {0}
  Rest (x ∷ xs) b = Chain next prev x xs b

  pub chain-left : (ys zs : List ℕ) (a b : ℕ) → Chain next prev a (ys ++ zs) b → Chain next prev a ys (first_or b zs)
  chain-left [] [] a b c = c
  chain-left [] (z ∷ zs) a b c = (c.0, c.1)
  chain-left (y ∷ ys) zs a b c = (c.0, c.1, chain-left ys zs y b c.2)

  pub chain-right : (ys zs : List ℕ) (a b : ℕ) → Chain next prev a (ys ++ zs) b → Rest zs b
  chain-right [] [] a b c = tt
  chain-right [] (z ∷ zs) a b c = c.2
  chain-right (y ∷ ys) zs a b c = chain-right ys zs y b c.2

  pub chain-join : (ys zs : List ℕ) (a b : ℕ) → Chain next prev a ys (first_or b zs) → Rest zs b → Chain next prev a (ys ++ zs) b
  chain-join [] [] a b c r = c
  chain-join [] (z ∷ zs) a b c r = (c.0, c.1, r)
  chain-join (y ∷ ys) zs a b c r = (c.0, c.1, chain-join ys zs y b c.2 r)

  -- what stands before the end is in the chain
  pub chain-last : (xs : List ℕ) (a b : ℕ) → Chain next prev a xs b → has (prev b) (a ∷ xs) ≡ true
  chain-last [] a b c = subst (λ k. has k (a ∷ []) ≡ true) (sym c.1) (has-first a [])
  chain-last (x ∷ xs) a b c = has-later (prev b) a (x ∷ xs) (chain-last xs x b c.2)

  pub chain-first : (xs : List ℕ) (a b : ℕ) → Chain next prev a xs b → next a ≡ first_or b xs
  chain-first [] a b c = c.0
  chain-first (x ∷ xs) a b c = c.0

  -- a walk lists the chain up to the head at its end
  pub walk-is : (xs : List ℕ) (n a b : ℕ) → Chain next prev a xs b → ((q : ℕ) → has q xs ≡ true → q < 2147483648) → 2147483648 ≤ b → length xs ≤ n → walk next n (next a) ≡ xs
  walk-is [] zero a b c low high few = refl
  walk-is [] (suc n) a b c low high few =
      ap (λ k. cond (nat_lt k 2147483648) (k ∷ walk next n (next k)) []) c.0 ∙ ap (λ t. cond t (b ∷ walk next n (next b)) []) (high-test b high)
    where
      high-test : (b : ℕ) → 2147483648 ≤ b → nat_lt b 2147483648 ≡ false
      high-test b h = grind (arith, nat_tests)
  walk-is (x ∷ xs) zero a b c low high few = absurd (omega arith)
  walk-is (x ∷ xs) (suc n) a b c low high few =
      ap (λ k. cond (nat_lt k 2147483648) (k ∷ walk next n (next k)) []) c.0
      ∙ ap (λ t. cond t (x ∷ walk next n (next x)) []) (low-test x (low x (has-first x xs)))
      ∙ ap (λ v. x ∷ v) (walk-is xs n x b c.2 (λ q h. low q (has-later q x xs h)) high (omega arith))
    where
      low-test : (x : ℕ) → x < 2147483648 → nat_lt x 2147483648 ≡ true
      low-test x h = grind (arith, nat_tests)

module _ (next prev next' prev' : ℕ → ℕ) where
  -- a chain none of whose links changed
  pub chain-same : (xs : List ℕ) (a b : ℕ) → Chain next prev a xs b
      → ((q : ℕ) → has q (a ∷ xs) ≡ true → next' q ≡ next q)
      → ((q : ℕ) → has q xs ≡ true → prev' q ≡ prev q) → prev' b ≡ prev b → Chain next' prev' a xs b
  chain-same [] a b c n p e = (n a (has-first a []) ∙ c.0, e ∙ c.1)
  chain-same (x ∷ xs) a b c n p e = (
    n a (has-first a (x ∷ xs)) ∙ c.0,
    p x (has-first x xs) ∙ c.1,
    chain-same xs x b c.2 (λ q h. n q (has-later q a (x ∷ xs) h)) (λ q h. p q (has-later q x xs h)) e,
  )

  -- a chain whose last link leads elsewhere now
  pub chain-turned : (xs : List ℕ) (a b d : ℕ) → Chain next prev a xs b → Once (a ∷ xs)
      → ((q : ℕ) → has q (a ∷ xs) ≡ true → q ≢ prev b → next' q ≡ next q)
      → ((q : ℕ) → has q xs ≡ true → prev' q ≡ prev q)
      → next' (prev b) ≡ d → prev' d ≡ prev b → Chain next' prev' a xs d
  chain-turned [] a b d c o n p e f = (ap next' (sym c.1) ∙ e, f ∙ c.1)
  chain-turned (x ∷ xs) a b d c o n p e f = (
    n a (has-first a (x ∷ xs)) (λ h. has-both a (x ∷ xs) (subst (λ k. has k (x ∷ xs) ≡ true) (sym h) (chain-last next prev xs x b c.2)) o.0) ∙ c.0,
    p x (has-first x xs) ∙ c.1,
    chain-turned xs x b d c.2 o.1 (λ q h ne. n q (has-later q a (x ∷ xs) h) ne) (λ q h. p q (has-later q x xs h)) e f,
  )
