use Rattle.std.proofs.Common.{refl, ◌≡◌, ◌∙◌, None, sym, subst}
use Rattle.link_lists.specs.Lists.{home_at, list_at, put_before, ListBecomes, HomeBecomes}
use Rattle.link_lists.specs.Rings.{seen}
use Rattle.link_lists.proofs.Calls.{is-sound, known, at-home, home-is, before-asks, before-leaves}
use Rattle.link_lists.proofs.lists.Lists.insert_before.Goals as goal

pub home-requires : goal.home-requires
home-requires c = let k = known (home_at c.args.self.now c.args.next) c.requires.next in (at-home _ _ c.self.view_is c.self.invariant k.0 c.args.next k.1).1

pub unreachable-requires : goal.unreachable-requires
unreachable-requires c = let h : home_at c.args.self.now c.args.next ≡ None = sym (home-is _ _ c.self.view_is c.self.invariant c.args.next) ∙ sym c.home.ensures ∙ c.in-None.is in
    let k = known (home_at c.args.self.now c.args.next) c.requires.next in cc

pub link_before-requires-clause-before_place : goal.link_before-requires-clause-before_place
link_before-requires-clause-before_place c = (before-asks _ _ c.self.view_is c.self.invariant c.args.next c.in-Some.list c.args.id (sym (home-is _ _ c.self.view_is c.self.invariant c.args.next) ∙ sym c.home.ensures ∙ c.in-Some.is) c.requires.there c.requires.free).before_place

pub link_before-requires-clause-id_there : goal.link_before-requires-clause-id_there
link_before-requires-clause-id_there c = (before-asks _ _ c.self.view_is c.self.invariant c.args.next c.in-Some.list c.args.id (sym (home-is _ _ c.self.view_is c.self.invariant c.args.next) ∙ sym c.home.ensures ∙ c.in-Some.is) c.requires.there c.requires.free).id_there

pub link_before-requires-clause-before_other : goal.link_before-requires-clause-before_other
link_before-requires-clause-before_other c = (before-asks _ _ c.self.view_is c.self.invariant c.args.next c.in-Some.list c.args.id (sym (home-is _ _ c.self.view_is c.self.invariant c.args.next) ∙ sym c.home.ensures ∙ c.in-Some.is) c.requires.there c.requires.free).before_other

pub invariant_of-self : goal.invariant_of-self
invariant_of-self c = (before-leaves _ _ c.self.view_is c.self.invariant c.args.next c.in-Some.list c.args.id (sym (home-is _ _ c.self.view_is c.self.invariant c.args.next) ∙ sym c.home.ensures ∙ c.in-Some.is) c.requires.there c.requires.free _ c.link_before.ensures).well

pub returns-clause-list : goal.returns-clause-list
returns-clause-list c = λ l h.
    let e : c.in-Some.list ≡ l = let a = (sym (home-is _ _ c.self.view_is c.self.invariant c.args.next) ∙ sym c.home.ensures ∙ c.in-Some.is) in cc in
    subst (λ j. ListBecomes c.args.self.now (seen c.link_before.new.self) j (put_before c.args.next c.args.id (list_at c.args.self.now j))) e (before-leaves _ _ c.self.view_is c.self.invariant c.args.next c.in-Some.list c.args.id (sym (home-is _ _ c.self.view_is c.self.invariant c.args.next) ∙ sym c.home.ensures ∙ c.in-Some.is) c.requires.there c.requires.free _ c.link_before.ensures).list

pub returns-clause-home : goal.returns-clause-home
returns-clause-home c = subst (λ o. HomeBecomes c.args.self.now (seen c.link_before.new.self) c.args.id o) (sym (sym (home-is _ _ c.self.view_is c.self.invariant c.args.next) ∙ sym c.home.ensures ∙ c.in-Some.is)) (before-leaves _ _ c.self.view_is c.self.invariant c.args.next c.in-Some.list c.args.id (sym (home-is _ _ c.self.view_is c.self.invariant c.args.next) ∙ sym c.home.ensures ∙ c.in-Some.is) c.requires.there c.requires.free _ c.link_before.ensures).home

pub returns-clause-counts : goal.returns-clause-counts
returns-clause-counts c = (before-leaves _ _ c.self.view_is c.self.invariant c.args.next c.in-Some.list c.args.id (sym (home-is _ _ c.self.view_is c.self.invariant c.args.next) ∙ sym c.home.ensures ∙ c.in-Some.is) c.requires.there c.requires.free _ c.link_before.ensures).counts

pub returns-clause-sound : goal.returns-clause-sound
returns-clause-sound c = is-sound _ _ refl (before-leaves _ _ c.self.view_is c.self.invariant c.args.next c.in-Some.list c.args.id (sym (home-is _ _ c.self.view_is c.self.invariant c.args.next) ∙ sym c.home.ensures ∙ c.in-Some.is) c.requires.there c.requires.free _ c.link_before.ensures).well
