use Rattle.sql_reader.proofs.Ways.{went_on, behind_delete}
use Rattle.sql_reader.proofs.plan.delete.Goals as goal

pub returns-clause-says : goal.returns-clause-says
returns-clause-says c = behind_delete c.args.reader.now c.condition.new.reader c.from_table-table.result c.in_ok-condition.condition
    (went_on c.args.reader.now c.from_table-table.new.reader c.condition.new.reader _ _ c.from_table-table.ensures.went c.in_ok-condition.ensures.went)
