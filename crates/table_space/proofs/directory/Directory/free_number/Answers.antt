use Rattle.table_space.proofs.Indexing.{free-empty}
use Rattle.table_space.proofs.directory.Directory.free_number.Goals as goal

pub returns-in-Some-clause-free : goal.returns-in-Some-clause-free
returns-in-Some-clause-free c = free-empty c.args.self.now.indexed c.in-Some.number c.in-Some.ensures.found.marked
