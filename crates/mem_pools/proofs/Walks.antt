-- Walks along links, of which one is written.
use Rattle.std.proofs.Common.{◌≡◌, ◌≢◌, ℕ, zero, suc, ◌+◌, ◌-◌, ◌<◌, ◌≤◌, List, [], ◌∷◌, ◌++◌, length, get_or, refl, ap, sym, ◌∙◌, arith}
use Rattle.std.proofs.Math.ListN.{set}
use Rattle.std.proofs.lemmas.List.{get_or-set_same, get_or-set_other}
use Rattle.std.proofs.lemmas.Bool.Decides.{nat_tests}
use Rattle.mem_pools.specs.Linked.{times}
use Rattle.mem_pools.specs.Links.{walk}
use Rattle.mem_pools.proofs.Times.{times-at, times-cons_zero}

pub length-walk : (next : List ℕ) (n b : ℕ) → length (walk next n b) ≡ n
length-walk next zero b = refl
length-walk next (suc n) b = ap suc (length-walk next n (get_or next b 0))

-- a block that is not on the way may get any link
pub walk-set_other : (next : List ℕ) (t v n b : ℕ) → times t (walk next n b) ≡ 0 → walk (set next t v) n b ≡ walk next n b
walk-set_other next t v zero b h = refl
walk-set_other next t v (suc n) b h =
    let parts = times-cons_zero t b (walk next n (get_or next b 0)) h in
    rw (get_or-set_other next t b v 0 parts.0) (ap (λ (xs : List ℕ). b ∷ xs) (walk-set_other next t v n (get_or next b 0) parts.1))

-- where the last block is linked on, the walk is one block longer
pub walk-set_last : (next : List ℕ) (t v n b : ℕ) → t < length next → ((k : ℕ) → times k (walk next (suc n) b) ≤ 1) → get_or (walk next (suc n) b) n 0 ≡ t → walk (set next t v) (suc (suc n)) b ≡ walk next (suc n) b ++ v ∷ []
walk-set_last next t v zero b h once last =
    let e : b ≡ t = last in
    let linked : get_or (set next t v) b 0 ≡ v = rw e (get_or-set_same next t v 0 h) in
    ap (λ (x : ℕ). b ∷ x ∷ []) linked
walk-set_last next t v (suc n) b h once last =
    let rest = get_or next b 0 in
    let there : 0 < times t (walk next (suc n) rest) = times-at (walk next (suc n) rest) n t (omega (arith, length-walk next (suc n) rest)) last in
    let apart : b ≢ t = λ e. both b t (walk next (suc n) rest) e there (once t) in
    let kept : get_or (set next t v) b 0 ≡ rest = get_or-set_other next t b v 0 apart in
    let more : walk (set next t v) (suc (suc n)) rest ≡ walk next (suc n) rest ++ v ∷ [] = walk-set_last next t v n rest h (λ k. below b k (walk next (suc n) rest) (once k)) last in
    ap (λ (x : ℕ). b ∷ walk (set next t v) (suc (suc n)) x) kept ∙ ap (λ (xs : List ℕ). b ∷ xs) more
  where
    both : (b t : ℕ) (xs : List ℕ) → b ≡ t → 0 < times t xs → times t (b ∷ xs) ≤ 1 → ⊥
    both b t xs e there one = grind (arith, nat_tests)

    below : (b k : ℕ) (xs : List ℕ) → times k (b ∷ xs) ≤ 1 → times k xs ≤ 1
    below b k xs one = omega arith
