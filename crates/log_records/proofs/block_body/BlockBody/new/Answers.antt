use Rattle.std.proofs.Common.{refl, arith}
use Rattle.log_records.specs.Reading.{entries_at}
use Rattle.log_records.specs.Keeping.{left_in, kept}
use Rattle.log_records.proofs.block_body.BlockBody.new.Goals as goal

pub invariant_of-result : goal.invariant_of-result
unfolding kept left_in entries_at
invariant_of-result c = record { room = omega arith; long = c.blank.ensures; counted = refl; each = tt; spelled = refl }

pub returns : goal.returns
unfolding kept left_in entries_at
returns c = refl
