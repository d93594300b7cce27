use Rattle.link_lists.proofs.Calls.{ids-are}
use Rattle.link_lists.proofs.lists.Lists.id_count.Goals as goal

pub returns : goal.returns
returns c = ids-are _ _ c.self.view_is c.self.invariant
