use Rattle.std.proofs.Common.{◌∙◌, ◌<◌, ap, arith, length, count_by}
use Rattle.link_lists.specs.Lists.{list_at, id_count}
use Rattle.lock_table.specs.Chains.{entries_of, entry_of, since}
use Rattle.lock_table.specs.Table.{is_of}
use Rattle.lock_table.proofs.Walks.{along-front, along-next, since-first, since-next, since-at, list-few}
use Rattle.lock_table.proofs.Counts.{count-one_few, count-next}
use Rattle.lock_table.proofs.chains.count_of.Goals as goal

pub loop-at-init : goal.loop-at-init
loop-at-init c =
    let ids = list_at c.args.lists.now c.args.list in
    let first = ap (λ o. since o ids) c.front-at.ensures.front ∙ since-first ids in
    record {
      along = along-front _ _ _ c.front-at.ensures.sound c.front-at.ensures.front;
      so_far = let e = ap (λ v. count_by (is_of c.args.thread) (entries_of c.args.entries.now v)) first in omega (arith, e);
      few = let b = ap length first in omega (arith, b);
    }

pub bounds-entries-id : goal.bounds-entries-id
bounds-entries-id c =
    let a = c.loop-at.invariant.along in
    let h : c.in-Some.id < id_count c.args.lists.now = (a.sound.there c.args.list c.in-Some.id (a.within c.in-Some.id c.in-Some.is)).1 in
    let e = c.requires.entries in
    omega (arith, e, h)

pub count_one-count-requires : goal.count_one-count-requires
count_one-count-requires c =
    let a = c.loop-at.invariant.along in
    let step = ap length (since-at c.args.lists.now c.args.list c.in-Some.id c.loop-at.at a c.in-Some.is) in
    let few = c.loop-at.invariant.few in
    let all = list-few c.args.lists.now a.sound c.args.list in
    let e = c.requires.entries in
    let r = c.requires.few in
    omega (arith, step, few, all, e, r)

pub loop-at-smaller : goal.loop-at-smaller
loop-at-smaller c = let e = ap length (since-next c.args.lists.now c.args.list c.in-Some.id c.loop-at.at c.next-at.result c.loop-at.invariant.along c.in-Some.is (c.next-at.ensures.next c.args.list (c.loop-at.invariant.along.within c.in-Some.id c.in-Some.is))) in omega (arith, e)

pub loop-at-preserved : goal.loop-at-preserved
loop-at-preserved c =
    let a = c.loop-at.invariant.along in
    let p = is_of c.args.thread in
    let ids = list_at c.args.lists.now c.args.list in
    let es = c.args.entries.now in
    let next = c.next-at.ensures.next c.args.list (a.within c.in-Some.id c.in-Some.is) in
    let step = since-next c.args.lists.now c.args.list c.in-Some.id c.loop-at.at c.next-at.result a c.in-Some.is next in
    let one = c.count_one-count.ensures in
    record {
      along = along-next c.args.lists.now c.args.list c.in-Some.id c.loop-at.at c.next-at.result a c.in-Some.is next;
      so_far =
          let s = c.loop-at.invariant.so_far in
          let e = ap (λ v. count_by p (entries_of es v)) step in
          let n = count-next p (entry_of es c.in-Some.id) (entries_of es (since c.next-at.result ids)) in
          omega (arith, s, e, n, one);
      few = let f = c.loop-at.invariant.few in let b = ap length step in let m = count-one_few p (entry_of es c.in-Some.id) in omega (arith, f, b, m, one);
    }
