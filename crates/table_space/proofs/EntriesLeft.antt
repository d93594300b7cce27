-- How many entries with a row id a transaction has.
use Rattle.std.proofs.Common.{◌≡◌, ◌≢◌, ℕ, zero, suc, ◌+◌, ◌≤◌, ◌<◌, ◌^◌, ◌==◌, ◌&&◌, Bool, true, false, cond, Option, Some, None, List, [], ◌∷◌, refl, ap, sym, ◌∙◌, arith, inl, inr, ⊎_elim, ◌⊎◌}
use Rattle.std.specs.Prelude.{nat_eq}
use Rattle.std.specs.Option.{option_eq, MatchOption}
use Rattle.std.specs.List.{count_by}
use Rattle.std.proofs.Math.Dec.{ltb}
use Rattle.std.proofs.lemmas.Bool.{eqb-true, eq-eqb, cases_eq, ltb-true, ltb-false}
use Rattle.std.proofs.lemmas.List.Sums.{sum_by-append}
use Rattle.table_space.specs.declared.emptied.EmptyEntry.{EmptyEntry}
use Rattle.table_space.specs.Emptied.{is_at, is_left, MayTell, IsNextTx}
use Rattle.table_space.specs.Ordered.{Each}
use Rattle.table_space.proofs.Ordered.{each-weaker}
use Rattle.table_space.proofs.EntriesAt.{one}

-- an entry that tells of nothing, or of a table, is one of two
told-true : (a : Bool) (v : Option ℕ) (o : ℕ) → (v ≡ None) ⊎ (v ≡ Some o) → one (a && true) ≡ one (a && (option_eq nat_eq v None && true)) + one (a && (option_eq nat_eq v (Some o) && true))
told-true false v o h = refl
told-true true v o (inl e) = rw e refl
told-true true v o (inr e) = rw (e, eq-eqb o o refl) refl

told-false : (a x y : Bool) → one (a && false) ≡ one (a && (x && false)) + one (a && (y && false))
told-false false x y = refl
told-false true false false = refl
told-false true false true = refl
told-false true true false = refl
told-false true true true = refl

told-none : (a x : Bool) → one (a && false) ≡ one (a && (x && false))
told-none false x = refl
told-none true false = refl
told-none true true = refl

untold : (a : Bool) (v : Option ℕ) → (v ≡ None) ⊎ (v ≡ None) → one (a && true) ≡ one (a && (option_eq nat_eq v None && true))
untold a v (inl e) = rw e refl
untold a v (inr e) = rw e refl

module _ (tx row : ℕ) where
  one-some : (o : ℕ) (e : EmptyEntry) → MayTell row (Some o) e → one (is_left tx row e) ≡ one (is_at tx None row e) + one (is_at tx (Some o) row e)
  one-some o e m = at (e.row == row) refl
    where
      at : (b : Bool) → (e.row == row) ≡ b → one ((e.tx == tx) && (e.row == row)) ≡ one ((e.tx == tx) && (option_eq nat_eq e.vacant_in None && (e.row == row))) + one ((e.tx == tx) && (option_eq nat_eq e.vacant_in (Some o) && (e.row == row)))
      at true is = rw is (told-true (e.tx == tx) e.vacant_in o (m (eqb-true e.row row is)))
      at false is = rw is (told-false (e.tx == tx) (option_eq nat_eq e.vacant_in None) (option_eq nat_eq e.vacant_in (Some o)))

  one-none : (e : EmptyEntry) → MayTell row None e → one (is_left tx row e) ≡ one (is_at tx None row e)
  one-none e m = at (e.row == row) refl
    where
      at : (b : Bool) → (e.row == row) ≡ b → one ((e.tx == tx) && (e.row == row)) ≡ one ((e.tx == tx) && (option_eq nat_eq e.vacant_in None && (e.row == row)))
      at true is = rw is (untold (e.tx == tx) e.vacant_in (m (eqb-true e.row row is)))
      at false is = rw is (told-none (e.tx == tx) (option_eq nat_eq e.vacant_in None))

  pub count-some : (o : ℕ) (xs : List EmptyEntry) → Each (MayTell row (Some o)) xs → count_by (is_left tx row) xs ≡ count_by (is_at tx None row) xs + count_by (is_at tx (Some o) row) xs
  count-some o [] h = refl
  count-some o (x ∷ xs) h =
      omega (arith, sum_by-append (λ y. one (is_left tx row y)) (x ∷ []) xs, sum_by-append (λ y. one (is_at tx None row y)) (x ∷ []) xs, sum_by-append (λ y. one (is_at tx (Some o) row y)) (x ∷ []) xs, one-some o x h.0, count-some o xs h.1)

  pub count-none : (xs : List EmptyEntry) → Each (MayTell row None) xs → count_by (is_left tx row) xs ≡ count_by (is_at tx None row) xs
  count-none [] h = refl
  count-none (x ∷ xs) h = omega (arith, sum_by-append (λ y. one (is_left tx row y)) (x ∷ []) xs, sum_by-append (λ y. one (is_at tx None row y)) (x ∷ []) xs, one-none x h.0, count-none xs h.1)

  left-other : (e : EmptyEntry) → e.tx ≢ tx → one (is_left tx row e) ≡ 0
  left-other e n = at (e.tx == tx) refl
    where
      at : (b : Bool) → (e.tx == tx) ≡ b → one (b && (e.row == row)) ≡ 0
      at true is = absurd (n (eqb-true e.tx tx is))
      at false is = refl

  -- a transaction without entries has none there
  pub count-others : (xs : List EmptyEntry) → Each (λ (e : EmptyEntry). e.tx ≢ tx) xs → count_by (is_left tx row) xs ≡ 0
  count-others [] h = refl
  count-others (x ∷ xs) h = omega (arith, sum_by-append (λ y. one (is_left tx row y)) (x ∷ []) xs, left-other x h.0, count-others xs h.1)

-- no transaction from one on has so many there
abbrev pub NoneWith : ℕ → ℕ → ℕ → List EmptyEntry → Type 0
NoneWith count row from xs = (tx : ℕ) → from ≤ tx → count_by (is_left tx row) xs ≢ count

module _ (count row from : ℕ) (xs : List EmptyEntry) (some : 0 < count) where
  pub none-with-below : Each (λ (e : EmptyEntry). e.tx < from) xs → NoneWith count row from xs
  none-with-below h tx low = λ e. omega (arith, e, some, count-others tx row xs (each-weaker _ (λ (y : EmptyEntry). y.tx ≢ tx) xs (λ y l s. omega (arith, l, s, low)) h))

  module _ (next : ℕ) (is : IsNextTx xs from next) (other : count_by (is_left next row) xs ≢ count) where
    pub none-with : NoneWith count row (next + 1) xs → NoneWith count row from xs
    none-with above tx low e =
        ⊎_elim
        (λ (same : tx ≡ next). other (ap (λ t. count_by (is_left t row) xs) (sym same) ∙ e))
        (λ (differs : tx ≡ next → ⊥). at differs)
        (cases_eq tx next)
      where
        -- it is between, and has none, or behind
        at : (tx ≡ next → ⊥) → ⊥
        at differs = behind (ltb tx next) refl
          where
            behind : (b : Bool) → ltb tx next ≡ b → ⊥
            behind true l = omega (arith, e, some, l, count-others tx row xs (each-weaker _ (λ (y : EmptyEntry). y.tx ≢ tx) xs (λ y c s. ⊎_elim (λ p. omega (arith, p, s, low)) (λ p. omega (arith, p, s, ltb-true tx next l)) c) is.least))
            behind false l = above tx (omega (arith, differs, ltb-false tx next l)) e

    pub none-with-last : Each (λ (e : EmptyEntry). e.tx < 2 ^ 64) xs → 2 ^ 64 ≤ next + 1 → NoneWith count row from xs
    none-with-last few last = none-with (λ tx low e. omega (arith, e, some, count-others tx row xs (each-weaker _ (λ (y : EmptyEntry). y.tx ≢ tx) xs (λ y l s. omega (arith, l, s, low, last)) few)))

    pub with-found : (o : Option ℕ) → MatchOption o (NoneWith count row (next + 1) xs) (λ tx. count_by (is_left tx row) xs ≡ count) → MatchOption o (NoneWith count row from xs) (λ tx. count_by (is_left tx row) xs ≡ count)
    with-found None h = none-with h
    with-found (Some tx) h = h
