use Rattle.std.proofs.Common.{refl, arith}
use Rattle.link_lists.proofs.Calls.{is-sound, low-list, head-is-place, front-asks, front-leaves}
use Rattle.link_lists.proofs.lists.Lists.push_front.Goals as goal

pub overflow_add-list : goal.overflow_add-list
overflow_add-list c = let low = low-list _ _ c.self.view_is c.self.invariant c.args.list c.requires.list in let few = c.self.invariant.few_lists in omega (arith, low, few)

pub next-first-requires : goal.next-first-requires
next-first-requires c = head-is-place _ _ c.self.view_is c.self.invariant c.args.list c.requires.list

pub link_before-requires-clause-at_place : goal.link_before-requires-clause-at_place
link_before-requires-clause-at_place c = (front-asks _ _ c.self.view_is c.self.invariant c.args.list c.args.id c.requires.list c.requires.there c.requires.free _ c.next-first.ensures).at_place

pub link_before-requires-clause-before_place : goal.link_before-requires-clause-before_place
link_before-requires-clause-before_place c = (front-asks _ _ c.self.view_is c.self.invariant c.args.list c.args.id c.requires.list c.requires.there c.requires.free _ c.next-first.ensures).before_place

pub link_before-requires-clause-id_there : goal.link_before-requires-clause-id_there
link_before-requires-clause-id_there c = (front-asks _ _ c.self.view_is c.self.invariant c.args.list c.args.id c.requires.list c.requires.there c.requires.free _ c.next-first.ensures).id_there

pub link_before-requires-clause-before_other : goal.link_before-requires-clause-before_other
link_before-requires-clause-before_other c = (front-asks _ _ c.self.view_is c.self.invariant c.args.list c.args.id c.requires.list c.requires.there c.requires.free _ c.next-first.ensures).before_other

pub link_before-requires-clause-at_other : goal.link_before-requires-clause-at_other
link_before-requires-clause-at_other c = (front-asks _ _ c.self.view_is c.self.invariant c.args.list c.args.id c.requires.list c.requires.there c.requires.free _ c.next-first.ensures).at_other

pub invariant_of-self : goal.invariant_of-self
invariant_of-self c = (front-leaves _ _ c.self.view_is c.self.invariant c.args.list c.args.id c.requires.list c.requires.there c.requires.free _ _ c.next-first.ensures c.link_before.ensures).well

pub returns-clause-list : goal.returns-clause-list
returns-clause-list c = (front-leaves _ _ c.self.view_is c.self.invariant c.args.list c.args.id c.requires.list c.requires.there c.requires.free _ _ c.next-first.ensures c.link_before.ensures).list

pub returns-clause-home : goal.returns-clause-home
returns-clause-home c = (front-leaves _ _ c.self.view_is c.self.invariant c.args.list c.args.id c.requires.list c.requires.there c.requires.free _ _ c.next-first.ensures c.link_before.ensures).home

pub returns-clause-counts : goal.returns-clause-counts
returns-clause-counts c = (front-leaves _ _ c.self.view_is c.self.invariant c.args.list c.args.id c.requires.list c.requires.there c.requires.free _ _ c.next-first.ensures c.link_before.ensures).counts

pub returns-clause-sound : goal.returns-clause-sound
returns-clause-sound c = is-sound _ _ refl (front-leaves _ _ c.self.view_is c.self.invariant c.args.list c.args.id c.requires.list c.requires.there c.requires.free _ _ c.next-first.ensures c.link_before.ensures).well
