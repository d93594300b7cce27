use Rattle.sql_reader.proofs.Ways.{went_on, kind_at_first}
use Rattle.sql_reader.proofs.plan.first_column.Goals as goal

pub kind-kind-requires-clause-column : goal.kind-kind-requires-clause-column
kind-kind-requires-clause-column c = kind_at_first c.name-name.new.self.place c.name-name.ensures.to

pub returns-clause-went : goal.returns-clause-went
returns-clause-went c = went_on c.args.reader.now c.name-name.new.self c.kind-kind.new.self _ _ c.name-name.ensures.went c.kind-kind.ensures.went
