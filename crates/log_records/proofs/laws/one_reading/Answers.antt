use Rattle.log_records.proofs.EntryReading.{one_reading_lem}
use Rattle.log_records.proofs.laws.one_reading.Goals as goal

pub returns : goal.returns
returns c = one_reading_lem
