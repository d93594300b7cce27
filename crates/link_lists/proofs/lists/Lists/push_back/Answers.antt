use Rattle.std.proofs.Common.{arith, refl}
use Rattle.link_lists.proofs.Calls.{is-sound, low-list, back-asks, back-leaves}
use Rattle.link_lists.proofs.lists.Lists.push_back.Goals as goal

pub overflow_add-list : goal.overflow_add-list
overflow_add-list c = let low = low-list _ _ c.self.view_is c.self.invariant c.args.list c.requires.list in let few = c.self.invariant.few_lists in omega (arith, low, few)

pub link_before-requires-clause-at_place : goal.link_before-requires-clause-at_place
link_before-requires-clause-at_place c = (back-asks _ _ c.self.view_is c.self.invariant c.args.list c.args.id c.requires.list c.requires.there c.requires.free).at_place

pub link_before-requires-clause-before_place : goal.link_before-requires-clause-before_place
link_before-requires-clause-before_place c = (back-asks _ _ c.self.view_is c.self.invariant c.args.list c.args.id c.requires.list c.requires.there c.requires.free).before_place

pub link_before-requires-clause-id_there : goal.link_before-requires-clause-id_there
link_before-requires-clause-id_there c = (back-asks _ _ c.self.view_is c.self.invariant c.args.list c.args.id c.requires.list c.requires.there c.requires.free).id_there

pub link_before-requires-clause-before_other : goal.link_before-requires-clause-before_other
link_before-requires-clause-before_other c = (back-asks _ _ c.self.view_is c.self.invariant c.args.list c.args.id c.requires.list c.requires.there c.requires.free).before_other

pub link_before-requires-clause-at_other : goal.link_before-requires-clause-at_other
link_before-requires-clause-at_other c = (back-asks _ _ c.self.view_is c.self.invariant c.args.list c.args.id c.requires.list c.requires.there c.requires.free).at_other

pub invariant_of-self : goal.invariant_of-self
invariant_of-self c = (back-leaves _ _ c.self.view_is c.self.invariant c.args.list c.args.id c.requires.list c.requires.there c.requires.free _ c.link_before.ensures).well

pub returns-clause-list : goal.returns-clause-list
returns-clause-list c = (back-leaves _ _ c.self.view_is c.self.invariant c.args.list c.args.id c.requires.list c.requires.there c.requires.free _ c.link_before.ensures).list

pub returns-clause-home : goal.returns-clause-home
returns-clause-home c = (back-leaves _ _ c.self.view_is c.self.invariant c.args.list c.args.id c.requires.list c.requires.there c.requires.free _ c.link_before.ensures).home

pub returns-clause-counts : goal.returns-clause-counts
returns-clause-counts c = (back-leaves _ _ c.self.view_is c.self.invariant c.args.list c.args.id c.requires.list c.requires.there c.requires.free _ c.link_before.ensures).counts

pub returns-clause-sound : goal.returns-clause-sound
returns-clause-sound c = is-sound _ _ refl (back-leaves _ _ c.self.view_is c.self.invariant c.args.list c.args.id c.requires.list c.requires.there c.requires.free _ c.link_before.ensures).well
