use Rattle.std.proofs.Common.{◌≡◌, ◌≢◌, ◌∙◌, ◌<◌, ◌≤◌, ◌+◌, ◌-◌, refl, sym, ap, subst, ℕ, suc, zero, Bool, true, false, ◌==◌, List, [], ◌∷◌, ◌++◌, length, take, get_or, arith}
use Rattle.std.proofs.Math.Seq.{take-suc}
use Rattle.ids_base.specs.Texts.{trimmed}
use Rattle.ids_base.proofs.Trimming.{trimmed-space, trimmed-other}
use Rattle.ids_base.proofs.chars.without_spaces.Goals as goal
use Rattle.ids_base.proofs.chars.without_spaces.Goals.{then-loop-len-test+else-bytes-len-eq32, else-loop-len-test}

shorter : (bytes : List ℕ) (n : ℕ) → n < length bytes → get_or bytes n 0 ≡ 32 → trimmed (take (suc n) bytes) ≡ trimmed (take n bytes)
shorter bytes n lt is = ap trimmed (take-suc bytes n 0 lt ∙ ap (λ b. take n bytes ++ b ∷ []) is) ∙ trimmed-space (take n bytes)

ended : (bytes : List ℕ) (n : ℕ) → n < length bytes → (get_or bytes n 0 == 32) ≡ false → trimmed (take (suc n) bytes) ≡ take (suc n) bytes
ended bytes n lt is = let front = take-suc bytes n 0 lt in ap trimmed front ∙ trimmed-other (take n bytes) (get_or bytes n 0) is ∙ sym front

before : (bytes : List ℕ) (n : ℕ) → 0 < n → n ≤ length bytes → get_or bytes (n - 1) 0 ≡ 32 → trimmed (take n bytes) ≡ trimmed bytes → trimmed (take (n - 1) bytes) ≡ trimmed bytes
before bytes n some fits is all =
    let at : n ≡ suc (n - 1) = omega arith in
    sym (shorter bytes (n - 1) (omega arith) is) ∙ ap (λ k. trimmed (take k bytes)) (sym at) ∙ all

pub loop-len-preserved : goal.loop-len-preserved
loop-len-preserved c = (omega arith, before _ _ c.loop-len-test.true c.loop-len.invariant.0 c.if-bytes-len-eq32.true c.loop-len.invariant.1)

empty : (bytes : List ℕ) (n : ℕ) → n ≡ 0 → take n bytes ≡ trimmed (take n bytes)
empty bytes n is = ap (λ k. take k bytes) is ∙ sym (ap (λ k. trimmed (take k bytes)) is)

behind : (bytes : List ℕ) (n : ℕ) → 0 < n → n ≤ length bytes → (get_or bytes (n - 1) 0 == 32) ≡ false → take n bytes ≡ trimmed (take n bytes)
behind bytes n some fits is =
    let at : n ≡ suc (n - 1) = omega arith in
    ap (λ k. take k bytes) at ∙ sym (ended bytes (n - 1) (omega arith) is) ∙ ap (λ k. trimmed (take k bytes)) (sym at)

pub returns : goal.returns
returns c = elim c.loop-len-test.branch [
  | then-loop-len-test+else-bytes-len-eq32 w ↦ behind _ _ w.loop-len-test.true c.loop-len.invariant.0 (grind arith) ∙ c.loop-len.invariant.1
  | else-loop-len-test w ↦ empty _ _ (omega arith) ∙ c.loop-len.invariant.1
]
