use Rattle.sql_reader.proofs.Ways.{starts_on}
use Rattle.sql_reader.proofs.reader.Reader.new.Goals as goal

pub returns-clause-on : goal.returns-clause-on
returns-clause-on c = starts_on c.args.text.now c.requires
