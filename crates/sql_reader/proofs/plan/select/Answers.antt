use Rattle.sql_reader.proofs.Ways.{went_on, behind_select}
use Rattle.sql_reader.proofs.plan.select.Goals as goal

pub returns-clause-says : goal.returns-clause-says
returns-clause-says c = behind_select c.args.reader.now c.condition.new.reader c.from_table-table.result c.in_ok-condition.condition
    (went_on c.args.reader.now c.only.new.self c.condition.new.reader _ _ c.only.ensures.went
    (went_on c.only.new.self c.from_table-table.new.reader c.condition.new.reader _ _ c.from_table-table.ensures.went c.in_ok-condition.ensures.went))
