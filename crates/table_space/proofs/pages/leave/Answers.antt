use Rattle.table_space.proofs.OwnedPages.{left}
use Rattle.table_space.proofs.pages.leave.Goals as goal

pub returns-clause-counted : goal.returns-clause-counted
returns-clause-counted c = rw c.in-Some.is (left c.args.owned.now.items c.take.new.self.items c.in-Some.table c.args.page c.take.result c.take.ensures.taken (rw c.in-Some.is at c.requires.there))
