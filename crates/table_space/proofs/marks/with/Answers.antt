use Rattle.std.proofs.Common.{◌∙◌, inl, inr}
use Rattle.std.specs.Int.{w64}
use Rattle.std.proofs.lemmas.Bool.{cases_eq}
use Rattle.std.proofs.lemmas.Nat.Bits.{bit_at_set_same, bit_at_set_other}
use Rattle.table_space.proofs.marks.with.Goals as goal

pub returns-clause-here : goal.returns-clause-here
returns-clause-here c = bit_at_set_same w64 c.args.marks c.args.mark c.requires

pub returns-clause-kept : goal.returns-clause-kept
returns-clause-kept c = λ other h. elim (cases_eq other c.args.mark) [
  | inl same ↦ rw same (bit_at_set_same w64 c.args.marks c.args.mark c.requires)
  | inr ne ↦ bit_at_set_other w64 c.args.marks c.args.mark c.requires other ne ∙ h
]
