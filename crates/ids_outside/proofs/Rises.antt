-- What the next value of a count is.
use Rattle.std.proofs.Common.{◌≡◌, inl, inr, ⊎_elim, ℕ, ◌<◌, arith}
use Rattle.std.proofs.lemmas.Bool.{cases_lt}
use Rattle.ids_outside.specs.Counts.{Rose, next_count, last_count}

-- the next value is greater, or the last
pub rose-next : (n : ℕ) → Rose n (next_count n)
rose-next n = ⊎_elim
    (λ below. let more : n < next_count n = omega arith in inl more)
    (λ above. let last : next_count n ≡ last_count = omega arith in inr last)
    (cases_lt n last_count)
