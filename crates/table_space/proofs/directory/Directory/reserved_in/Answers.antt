use Rattle.std.proofs.Common.{◌<◌, arith, inl, inr}
use Rattle.std.proofs.lemmas.Bool.{cases_eq}
use Rattle.table_space.proofs.directory.Directory.reserved_in.Goals as goal

pub loop-slot-preserved : goal.loop-slot-preserved
loop-slot-preserved c = λ slot tx some lt. elim (cases_eq slot c.loop-slot.slot) [
  | inl same ↦ rw same (c.with_row-marks.ensures.here tx)
  | inr other ↦ λ r. let before : slot < c.loop-slot.slot = omega arith in elim (c.loop-slot.invariant slot tx some before r) [
    | inl f ↦ inl f
    | inr m ↦ inr (c.with_row-marks.ensures.kept tx m)
  ]
]

pub returns : goal.returns
returns c = λ slot tx some le. let lt : slot < c.loop-slot.slot = omega arith in c.loop-slot.invariant slot tx some lt
