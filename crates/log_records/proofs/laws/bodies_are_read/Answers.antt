use Rattle.log_records.proofs.BodyReading.{body_again}
use Rattle.log_records.proofs.laws.bodies_are_read.Goals as goal

pub returns : goal.returns
returns c = body_again
