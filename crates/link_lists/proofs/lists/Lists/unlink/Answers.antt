use Rattle.std.proofs.Common.{refl}
use Rattle.link_lists.proofs.Calls.{is-sound, known, out-there, out-before, out-behind, out-leaves}
use Rattle.link_lists.specs.Lists.{home_at}
use Rattle.link_lists.proofs.lists.Lists.unlink.Goals as goal

pub take_out-requires-clause-id_there : goal.take_out-requires-clause-id_there
take_out-requires-clause-id_there c = let k = known (home_at c.args.self.now c.args.id) c.requires in out-there _ _ c.self.view_is c.self.invariant k.0 c.args.id k.1

pub take_out-requires-clause-before_place : goal.take_out-requires-clause-before_place
take_out-requires-clause-before_place c = let k = known (home_at c.args.self.now c.args.id) c.requires in out-before _ _ c.self.view_is c.self.invariant k.0 c.args.id k.1

pub take_out-requires-clause-behind_place : goal.take_out-requires-clause-behind_place
take_out-requires-clause-behind_place c = let k = known (home_at c.args.self.now c.args.id) c.requires in out-behind _ _ c.self.view_is c.self.invariant k.0 c.args.id k.1

pub invariant_of-self : goal.invariant_of-self
invariant_of-self c = let k = known (home_at c.args.self.now c.args.id) c.requires in (out-leaves _ _ c.self.view_is c.self.invariant k.0 c.args.id k.1 _ c.take_out.ensures).well

pub returns-clause-list : goal.returns-clause-list
returns-clause-list c = λ l h. (out-leaves _ _ c.self.view_is c.self.invariant l c.args.id h _ c.take_out.ensures).list

pub returns-clause-home : goal.returns-clause-home
returns-clause-home c = let k = known (home_at c.args.self.now c.args.id) c.requires in (out-leaves _ _ c.self.view_is c.self.invariant k.0 c.args.id k.1 _ c.take_out.ensures).home

pub returns-clause-counts : goal.returns-clause-counts
returns-clause-counts c = let k = known (home_at c.args.self.now c.args.id) c.requires in (out-leaves _ _ c.self.view_is c.self.invariant k.0 c.args.id k.1 _ c.take_out.ensures).counts

pub returns-clause-sound : goal.returns-clause-sound
returns-clause-sound c = let k = known (home_at c.args.self.now c.args.id) c.requires in is-sound _ _ refl (out-leaves _ _ c.self.view_is c.self.invariant k.0 c.args.id k.1 _ c.take_out.ensures).well
