use Rattle.std.proofs.Common.{◌≡◌, ◌∙◌, ◌<◌, ap, sym, subst, arith, length, refl, true}
use Rattle.link_lists.specs.Lists.{id_count}
use Rattle.lock_table.specs.Chains.{is_named, entry_of, named_since, IsAlong}
use Rattle.lock_table.proofs.Walks.{along-next, since-next, named-skip}
use Rattle.lock_table.proofs.chains.named_from.Goals as goal

pub loop-at-init : goal.loop-at-init
loop-at-init c = record { along = c.requires.along; same = refl }

pub bounds-entries-id : goal.bounds-entries-id
bounds-entries-id c =
    let a = c.loop-at.invariant.along in
    let h : c.in-Some.id < id_count c.args.lists.now = (a.sound.there c.args.list c.in-Some.id (a.within c.in-Some.id c.in-Some.is)).1 in
    let e = c.requires.entry_places in
    omega (arith, e, h)

pub loop-at-smaller : goal.loop-at-smaller
loop-at-smaller c = let e = ap length (since-next c.args.lists.now c.args.list c.in-Some.id c.loop-at.at c.next-at.result c.loop-at.invariant.along c.in-Some.is (c.next-at.ensures.next c.args.list (c.loop-at.invariant.along.within c.in-Some.id c.in-Some.is))) in omega (arith, e)

pub loop-at-preserved : goal.loop-at-preserved
loop-at-preserved c =
    let a = c.loop-at.invariant.along in
    let next = c.next-at.ensures.next c.args.list (a.within c.in-Some.id c.in-Some.is) in
    record {
      along = along-next c.args.lists.now c.args.list c.in-Some.id c.loop-at.at c.next-at.result a c.in-Some.is next;
      same = named-skip c.args.name.now c.args.lists.now c.args.entries.now c.args.list c.in-Some.id c.loop-at.at c.next-at.result
          (since-next c.args.lists.now c.args.list c.in-Some.id c.loop-at.at c.next-at.result a c.in-Some.is next) (sym c.same_name.ensures ∙ c.if-same_name.false)
          ∙ c.loop-at.invariant.same;
    }

pub returns-then-same_name-clause-along : goal.returns-then-same_name-clause-along
returns-then-same_name-clause-along c = subst (λ o. IsAlong c.args.lists.now c.args.list o) c.in-Some.is c.loop-at.invariant.along

pub returns-then-same_name-clause-same : goal.returns-then-same_name-clause-same
returns-then-same_name-clause-same c = ap (λ o. named_since c.args.name.now c.args.lists.now c.args.entries.now c.args.list o) (sym c.in-Some.is) ∙ c.loop-at.invariant.same

pub returns-then-same_name-clause-named : goal.returns-then-same_name-clause-named
returns-then-same_name-clause-named c = λ x h.
    let e : c.in-Some.id ≡ x = cc in
    subst (λ n. is_named c.args.name.now (entry_of c.args.entries.now n) ≡ true) e (sym c.same_name.ensures ∙ c.if-same_name.true)
