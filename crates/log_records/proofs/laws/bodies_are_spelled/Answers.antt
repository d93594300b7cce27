use Rattle.log_records.proofs.BodyReading.{body_takes}
use Rattle.log_records.proofs.laws.bodies_are_spelled.Goals as goal

pub returns : goal.returns
returns c = body_takes
