use Rattle.sql_reader.proofs.Unique.{one_plan}
use Rattle.sql_reader.proofs.laws.a_statement_has_one_plan.Goals as goal

pub returns : goal.returns
returns c = one_plan
