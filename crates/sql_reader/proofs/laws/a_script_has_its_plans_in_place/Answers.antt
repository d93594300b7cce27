use Rattle.sql_reader.proofs.Unique.{same_phases, same_sessions, same_statements, plan_there}
use Rattle.sql_reader.proofs.laws.a_script_has_its_plans_in_place.Goals as goal

pub returns-clause-phases : goal.returns-clause-phases
returns-clause-phases c = same_phases

pub returns-clause-sessions : goal.returns-clause-sessions
returns-clause-sessions c = same_sessions

pub returns-clause-statements : goal.returns-clause-statements
returns-clause-statements c = same_statements

pub returns-clause-plans : goal.returns-clause-plans
returns-clause-plans c = plan_there
