use Rattle.std.proofs.Common.{◌∙◌, ℕ, Option, IsSome, length, map, refl, ap, sym, subst, arith}
use Rattle.link_lists.specs.Lists.{list_at, first_of, behind}
use Rattle.thread_queues.specs.declared.event.Waiter.{Waiter}
use Rattle.thread_queues.specs.Laid.{block_at}
use Rattle.thread_queues.specs.Orders.{first_from}
use Rattle.thread_queues.proofs.Walking.{from, walked, walk-map, walk-shorter}
use Rattle.thread_queues.proofs.order.first_behind.Goals as goal

pub bounds-blocks-id : goal.bounds-blocks-id
bounds-blocks-id c =
    let xs = list_at c.args.lists.now c.args.list in
    let w = walked xs c.loop-at.at c.in-Some.id (c.front-at.ensures.sound.once c.args.list) c.in-Some.is c.loop-at.invariant.at in
    c.requires.blocks c.in-Some.id w.has

pub next-at-requires : goal.next-at-requires
next-at-requires c =
    let xs = list_at c.args.lists.now c.args.list in
    let w = walked xs c.loop-at.at c.in-Some.id (c.front-at.ensures.sound.once c.args.list) c.in-Some.is c.loop-at.invariant.at in
    let home = (c.front-at.ensures.sound.home c.args.list c.in-Some.id).1 w.has in
    subst (λ (o : Option ℕ). IsSome o) (sym home) refl

pub loop-at-smaller : goal.loop-at-smaller
loop-at-smaller c =
    let xs = list_at c.args.lists.now c.args.list in
    let w = walked xs c.loop-at.at c.in-Some.id (c.front-at.ensures.sound.once c.args.list) c.in-Some.is c.loop-at.invariant.at in
    let home = (c.front-at.ensures.sound.home c.args.list c.in-Some.id).1 w.has in
    let next = c.next-at.ensures.next c.args.list home in
    let less = walk-shorter xs c.loop-at.at c.in-Some.id w in
    let same = ap (λ (o : Option ℕ). length (from o xs)) next in
    omega (arith, less, same)

pub loop-at-preserved : goal.loop-at-preserved
loop-at-preserved c =
    let xs = list_at c.args.lists.now c.args.list in
    let w = walked xs c.loop-at.at c.in-Some.id (c.front-at.ensures.sound.once c.args.list) c.in-Some.is c.loop-at.invariant.at in
    let home = (c.front-at.ensures.sound.home c.args.list c.in-Some.id).1 w.has in
    let next = c.next-at.ensures.next c.args.list home in
    let f = block_at c.args.blocks.now in
    record {
      at = next ∙ w.at ∙ ap (λ (o : Option ℕ). first_of (from o xs)) (sym next);
      same =
          ap (λ (o : Option ℕ). first_from c.args.order c.args.from c.least_of-first.result (map (block_at c.args.blocks.now) (from o xs))) next
          ∙ ap (λ (o : Option Waiter). first_from c.args.order c.args.from o (map (block_at c.args.blocks.now) (from (behind c.in-Some.id xs) xs))) c.least_of-first.ensures
          ∙ ap (first_from c.args.order c.args.from c.loop-at.first) (sym (walk-map (block_at c.args.blocks.now) xs c.loop-at.at c.in-Some.id w))
          ∙ c.loop-at.invariant.same;
    }
