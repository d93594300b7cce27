use Rattle.std.proofs.Common.{◌∙◌}
use Rattle.link_lists.proofs.Calls.{low-id, home-is, is-sound}
use Rattle.link_lists.proofs.lists.Lists.home.Goals as goal

pub home-requires : goal.home-requires
home-requires c = low-id _ _ c.self.view_is c.self.invariant c.args.id c.requires

pub returns-clause-home : goal.returns-clause-home
returns-clause-home c = c.home.ensures ∙ home-is _ _ c.self.view_is c.self.invariant c.args.id

pub returns-clause-sound : goal.returns-clause-sound
returns-clause-sound c = is-sound _ _ c.self.view_is c.self.invariant
