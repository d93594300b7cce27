-- A slab whose room is full.
use Rattle.std.proofs.Common.{ℕ, zero, suc, ◌<◌, ◌≤◌, List, [], ◌∷◌, length, Option, Some, None, is_some, IsSome, count_by, cond, slice_index_or, arith, refl}
use Rattle.std.proofs.lemmas.List.Sums.{sum_by-cons}

module _ {T : Type 0} where
  abbrev one_of : Option T → ℕ
  one_of o = cond (is_some o) 1 0

  few-filled : (slots : List (Option T)) → count_by is_some slots ≤ length slots
  few-filled [] = omega arith
  few-filled (None ∷ rest) = let c = sum_by-cons one_of None rest in let r = few-filled rest in omega (arith, c, r)
  few-filled (Some x ∷ rest) = let c = sum_by-cons one_of (Some x) rest in let r = few-filled rest in omega (arith, c, r)

  -- where as many slots have a value as there are, each has one
  pub all-filled : (slots : List (Option T)) → length slots ≤ count_by is_some slots → (k : ℕ) → k < count_by is_some slots → IsSome (slice_index_or slots k None)
  all-filled [] full k lt = absurd (omega (arith, lt))
  all-filled (None ∷ rest) full k lt = absurd (let c = sum_by-cons one_of None rest in let r = few-filled rest in omega (arith, c, r, full))
  all-filled (Some x ∷ rest) full zero lt = refl
  all-filled (Some x ∷ rest) full (suc k) lt =
      let c = sum_by-cons one_of (Some x) rest in all-filled rest (omega (arith, c, full)) k (omega (arith, c, lt))
