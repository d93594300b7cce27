use Rattle.std.proofs.Common.{refl, inr}
use Rattle.fast_recovery.proofs.opening.tables_of.Goals as goal

pub returns-in-Err-Damaged-clause-fault : goal.returns-in-Err-Damaged-clause-fault
returns-in-Err-Damaged-clause-fault c = inr (c.in-Err-Damaged.row, refl, c.in-Err-Damaged.ensures.damaged c.in-Err-Damaged.row c.in-Err-Damaged.field-0-is)
