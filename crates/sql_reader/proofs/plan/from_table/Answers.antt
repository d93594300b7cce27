use Rattle.sql_reader.proofs.Ways.{went_on}
use Rattle.sql_reader.proofs.plan.from_table.Goals as goal

pub returns-clause-went : goal.returns-clause-went
returns-clause-went c = went_on c.args.reader.now c.only.new.self c.name.new.self _ _ c.only.ensures.went c.name.ensures.went
