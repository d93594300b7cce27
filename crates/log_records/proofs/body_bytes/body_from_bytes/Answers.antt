use Rattle.std.proofs.Common.{arith}
use Rattle.log_records.proofs.BodyReading.{found_is, refused_is}
use Rattle.log_records.proofs.body_bytes.body_from_bytes.Goals as goal

pub returns-clause-found : goal.returns-clause-found
returns-clause-found c = found_is c.args.bytes.now c.read.result (λ i. omega (arith, c.fits-bytes i)) c.read.ensures

pub returns-clause-none : goal.returns-clause-none
returns-clause-none c = refused_is c.args.bytes.now c.read.result c.read.ensures
