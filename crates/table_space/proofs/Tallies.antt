-- How many items of a list pass a test.
use Rattle.std.proofs.Common.{◌≡◌, ℕ, ◌+◌, ◌<◌, Bool, true, false, cond, refl, ap, ◌∙◌, subst, List, [], ◌∷◌, ◌++◌, length, arith}
use Rattle.std.specs.List.{count_by}
use Rattle.std.specs.declared.cmp.Ordering.{Ordering}
use Rattle.std.proofs.lemmas.List.Sums.{sum_by-cons, sum_by-append}
use Rattle.table_space.specs.Ordered.{Each, IsPut, IsTaken}

module _ {K : Type 0} where
  -- a count by parts
  pub count-cons : (p : K → Bool) (x : K) (xs : List K) → count_by p (x ∷ xs) ≡ cond (p x) 1 0 + count_by p xs
  count-cons p x xs = sum_by-cons (λ (y : K). cond (p y) 1 0) x xs

  pub count-middle : (p : K → Bool) (a b : List K) (x : K) → count_by p (a ++ x ∷ b) ≡ count_by p (a ++ b) + cond (p x) 1 0
  count-middle p a b x =
      let f : K → ℕ = λ y. cond (p y) 1 0 in
      omega (arith, sum_by-append f a (x ∷ b), sum_by-append f a b, count-cons p x b)

  -- one item more, and one less
  pub count-put : (p : K → Bool) (cmp : K → K → Ordering) (was now : List K) (x : K) → IsPut cmp was now x → count_by p now ≡ count_by p was + cond (p x) 1 0
  count-put p cmp was now x h = omega (arith, ap (count_by p) h.old, ap (count_by p) h.new, count-middle p h.before h.behind x)

  pub count-taken : (p : K → Bool) (cmp : K → K → Ordering) (was now : List K) (one x : K) → IsTaken cmp was now one x → count_by p was ≡ count_by p now + cond (p x) 1 0
  count-taken p cmp was now one x h = omega (arith, ap (count_by p) h.old, ap (count_by p) h.new, count-middle p h.before h.behind x)

  -- none passes
  pub count-none : (p : K → Bool) (xs : List K) → Each (λ x. p x ≡ false) xs → count_by p xs ≡ 0
  count-none p [] a = refl
  count-none p (x ∷ xs) a = count-cons p x xs ∙ rw a.0 (omega (arith, count-none p xs a.1))

  -- all do
  pub count-all : (xs : List K) → count_by (λ (x : K). true) xs ≡ length xs
  count-all [] = refl
  count-all (x ∷ xs) = omega (arith, count-cons (λ (y : K). true) x xs, count-all xs)

  -- what each item has, one that is counted has
  pub each-counted : (p : K → Bool) (P : K → Type 0) (y : K) (xs : List K) → ((x : K) → p x ≡ true → x ≡ y) → Each P xs → 0 < count_by p xs → P y
  each-counted p P y [] exact all some = absurd (omega arith)
  each-counted p P y (x ∷ xs) exact all some = at (p x) refl (each-counted p P y xs exact all.1)
    where
      at : (b : Bool) → p x ≡ b → (0 < count_by p xs → P y) → P y
      at true e rest = subst P (exact x e) all.0
      at false e rest =
          let n : cond {A = ℕ} (p x) 1 0 ≡ 0 = rw e refl in
          rest (omega (arith, some, n, count-cons p x xs))
