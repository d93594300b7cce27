use Rattle.sql_reader.proofs.Ways.{went_on, behind_insert}
use Rattle.sql_reader.proofs.plan.insert.Goals as goal

pub returns-clause-says : goal.returns-clause-says
returns-clause-says c = behind_insert c.args.reader.now c.row.new.reader c.name-table.result c.in_ok-row.row
    (went_on c.args.reader.now c.only.new.self c.row.new.reader _ _ c.only.ensures.went
    (went_on c.only.new.self c.name-table.new.self c.row.new.reader _ _ c.name-table.ensures.went
    (went_on c.name-table.new.self c.only-2.new.self c.row.new.reader _ _ c.only-2.ensures.went
    (went_on c.only-2.new.self c.only-3.new.self c.row.new.reader _ _ c.only-3.ensures.went c.in_ok-row.ensures.went))))
