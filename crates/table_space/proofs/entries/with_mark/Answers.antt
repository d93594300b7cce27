use Rattle.std.proofs.Common.{◌≢◌, ◌<◌, ◌∙◌, arith, inl, inr}
use Rattle.std.specs.Int.{w64}
use Rattle.std.proofs.lemmas.Bool.{cases_eq}
use Rattle.std.proofs.lemmas.Nat.Bits.{bit_at_set_same, bit_at_set_other}
use Rattle.table_space.proofs.entries.with_mark.Goals as goal

pub returns-else-is_filled-clause-here : goal.returns-else-is_filled-clause-here
returns-else-is_filled-clause-here c = λ h. let lt : c.mark_of.result < 64 = omega (arith, c.mark_of.ensures) in rw (← c.mark_of.ensures) (bit_at_set_same w64 c.args.marks c.mark_of.result lt)

pub returns-else-is_filled-clause-kept : goal.returns-else-is_filled-clause-kept
returns-else-is_filled-clause-kept c = λ mark h.
    let lt : c.mark_of.result < 64 = omega (arith, c.mark_of.ensures) in
    elim (cases_eq mark c.mark_of.result) [
      | inl same ↦ rw same (bit_at_set_same w64 c.args.marks c.mark_of.result lt)
      | inr other ↦ bit_at_set_other w64 c.args.marks c.mark_of.result lt mark other ∙ h
    ]

pub returns-else-is_filled-clause-free : goal.returns-else-is_filled-clause-free
returns-else-is_filled-clause-free c =
    let lt : c.mark_of.result < 64 = omega (arith, c.mark_of.ensures) in
    let other : 63 ≢ c.mark_of.result = omega (arith, c.mark_of.ensures) in
    bit_at_set_other w64 c.args.marks c.mark_of.result lt 63 other
