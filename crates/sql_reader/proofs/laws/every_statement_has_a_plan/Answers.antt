use Rattle.sql_reader.proofs.Plenty.{some_plan}
use Rattle.sql_reader.proofs.laws.every_statement_has_a_plan.Goals as goal

pub returns : goal.returns
returns c = some_plan
