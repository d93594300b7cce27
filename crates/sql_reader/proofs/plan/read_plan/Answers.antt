use Rattle.sql_reader.proofs.Ways.{read_by}
use Rattle.sql_reader.proofs.plan.read_plan.Goals as goal

pub returns : goal.returns
returns c = read_by c.args.text.now c.new-reader.result c.statement.new.reader c.statement.result c.new-reader.ensures.place c.new-reader.ensures.edge c.new-reader.ensures.rest c.statement.ensures.went c.statement.ensures.on c.statement.ensures.to
