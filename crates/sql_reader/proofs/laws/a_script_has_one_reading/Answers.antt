use Rattle.sql_reader.proofs.Unique.{one_script}
use Rattle.sql_reader.proofs.laws.a_script_has_one_reading.Goals as goal

pub returns : goal.returns
returns c = one_script
