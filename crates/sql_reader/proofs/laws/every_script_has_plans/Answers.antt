use Rattle.sql_reader.proofs.Plenty.{some_script}
use Rattle.sql_reader.proofs.laws.every_script_has_plans.Goals as goal

pub returns : goal.returns
returns c = some_script
