use Rattle.link_lists.proofs.Calls.{lists-are}
use Rattle.link_lists.proofs.lists.Lists.list_count.Goals as goal

pub returns : goal.returns
returns c = lists-are _ _ c.self.view_is c.self.invariant
