use Rattle.sql_reader.proofs.Ways.{went_on, behind_create}
use Rattle.sql_reader.proofs.plan.create.Goals as goal

pub returns-clause-says : goal.returns-clause-says
returns-clause-says c = behind_create c.args.reader.now c.shape.new.reader c.name-table.result c.in_ok-shape.shape
    (went_on c.args.reader.now c.only.new.self c.shape.new.reader _ _ c.only.ensures.went
    (went_on c.only.new.self c.name-table.new.self c.shape.new.reader _ _ c.name-table.ensures.went
    (went_on c.name-table.new.self c.only-2.new.self c.shape.new.reader _ _ c.only-2.ensures.went c.in_ok-shape.ensures.went)))
