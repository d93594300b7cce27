-- What a count of the taken places says of each of them.
use Rattle.std.proofs.Common.{◌≡◌, ℕ, zero, suc, ◌<◌, ◌≤◌, List, [], ◌∷◌, length, get_or, take, cond, arith, Option, Some, None, is_some, IsSome}
use Rattle.std.specs.List.{count_by}
use Rattle.std.proofs.lemmas.List.{length-take-le}
use Rattle.std.proofs.lemmas.List.Sums.{sum_by-cons, count_by-le-length}

-- where as many of the first n places are taken as there are, each of them is
pub all_taken : {A : Type 0} (xs : List (Option A)) (n i : ℕ) → n ≤ length xs → count_by (λ x. is_some x) (take n xs) ≡ n → i < n → IsSome (get_or xs i None)
all_taken [] n i few count h = absurd (omega arith)
all_taken (x ∷ xs) zero i few count h = absurd (omega arith)
all_taken {A = A} (None ∷ xs) (suc n) i few count h =
    absurd (omega (arith, count, sum_by-cons (λ (x : Option A). cond (is_some x) 1 0) None (take n xs), count_by-le-length (λ (x : Option A). is_some x) (take n xs), length-take-le n xs (omega arith)))
all_taken (Some a ∷ xs) (suc n) zero few count h = cc
all_taken {A = A} (Some a ∷ xs) (suc n) (suc i) few count h =
    all_taken xs n i (omega arith) (omega (arith, count, sum_by-cons (λ (x : Option A). cond (is_some x) 1 0) (Some a) (take n xs))) (omega arith)
