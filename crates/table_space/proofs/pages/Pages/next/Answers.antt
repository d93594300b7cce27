use Rattle.std.proofs.Common.{subst}
use Rattle.table_space.specs.Owners.{IsNextOwned, HasNoNextOwned}
use Rattle.table_space.proofs.OwnedPages.{next-none, next-found, next-other}
use Rattle.table_space.proofs.pages.Pages.next.Goals as goal

pub returns-in-Some : goal.returns-in-Some
returns-in-Some c = subst (λ os. IsNextOwned os c.args.table c.args.page c.in-Some.found.page) c.self.view_is (next-found c.self.inside.owners.items c.self.inside.owned.items c.self.invariant.ordered c.self.invariant.owned c.args.table c.args.page c.in-Some.found c.in-Some.ensures c.if-found-table.true)

pub returns-in-Some-2 : goal.returns-in-Some-2
returns-in-Some-2 c = subst (λ os. HasNoNextOwned os c.args.table c.args.page) c.self.view_is (next-other c.self.inside.owners.items c.self.inside.owned.items c.self.invariant.ordered c.self.invariant.owned c.args.table c.args.page c.in-Some.found c.in-Some.ensures c.if-found-table.false)

pub returns-in-None : goal.returns-in-None
returns-in-None c = subst (λ os. HasNoNextOwned os c.args.table c.args.page) c.self.view_is (next-none c.self.inside.owners.items c.self.inside.owned.items c.self.invariant.ordered c.self.invariant.owned c.args.table c.args.page c.in-None.ensures)
