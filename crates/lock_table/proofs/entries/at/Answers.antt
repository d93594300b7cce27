use Rattle.std.proofs.Common.{◌≡◌, ◌∙◌, ◌-◌, ◌+◌, ◌<◌, ℕ, suc, sym, ap, arith, List, ◌∷◌, Option, Some, None, slice_get}
use Rattle.std.specs.Iterator.{YieldsFirst}
use Rattle.lock_table.proofs.entries.at.Goals as goal

next-place : {A : Type 0} (x : A) (xs : List A) (n k : ℕ) → k < n → slice_get (x ∷ xs) (n - k) ≡ slice_get xs (n - (k + 1))
next-place x xs n k lt = let e : n - k ≡ suc (n - (k + 1)) = omega (arith, lt) in ap (slice_get (x ∷ xs)) e

first-place : {A : Type 0} (s : List A) (r : Option A) (t : List A) → YieldsFirst (λ (v : List A). v) s r t → r ≡ slice_get s 0
first-place s None t h = sym (ap (λ v. slice_get v 0) h.0)
first-place s (Some x) t h = sym (ap (λ v. slice_get v 0) h)

pub returns-in_err-next : goal.returns-in_err-next
returns-in_err-next c =
    let e = c.in_err-next.ensures.steps.0 in
    c.from_residual.ensures ∙ sym (ap (λ v. slice_get v (c.args.position - c.loop.counter)) e) ∙ c.loop.invariant

pub loop-preserved : goal.loop-preserved
loop-preserved c =
    sym (next-place c.in_ok-next.field-0 c.next.new.self c.args.position c.loop.counter c.loop-test.true)
    ∙ sym (ap (λ v. slice_get v (c.args.position - c.loop.counter)) c.in_ok-next.ensures.steps) ∙ c.loop.invariant

pub returns : goal.returns
returns c =
    let h = c.loop-test.false in
    let e : 0 ≡ c.args.position - c.loop.counter = omega (arith, h) in
    first-place c.loop.rest c.next-2.result c.next-2.new.self c.next-2.ensures.steps ∙ ap (slice_get c.loop.rest) e ∙ c.loop.invariant
