use Rattle.std.proofs.Common.{◌≡◌, ◌∙◌, ◌<◌, ℕ, Option, IsSome, length, map, refl, ap, sym, subst, arith}
use Rattle.std.specs.List.{filter, slice_get}
use Rattle.link_lists.specs.Lists.{list_at, first_of, behind}
use Rattle.thread_queues.specs.Slotted.{threads_of}
use Rattle.thread_queues.specs.Laid.{block_at}
use Rattle.thread_queues.specs.Orders.{counts}
use Rattle.thread_queues.proofs.Walking.{from, walked, walk-shorter, walk-here-at, walk-later-at, walk-over-at}
use Rattle.thread_queues.proofs.slots.thread_at.Goals as goal
use Rattle.thread_queues.proofs.slots.thread_at.Goals.{then-counts+else-left-eq0, else-counts}

pub bounds-blocks-id : goal.bounds-blocks-id
bounds-blocks-id c =
    let xs = list_at c.args.lists.now c.args.list in
    let w = walked xs c.loop-at.at c.in-Some.id (c.front-at.ensures.sound.once c.args.list) c.in-Some.is c.loop-at.invariant.at in
    c.requires.blocks c.in-Some.id w.has

pub next-at-requires : goal.next-at-requires
next-at-requires c =
    let xs = list_at c.args.lists.now c.args.list in
    let w = walked xs c.loop-at.at c.in-Some.id (c.front-at.ensures.sound.once c.args.list) c.in-Some.is c.loop-at.invariant.at in
    let home = (c.front-at.ensures.sound.home c.args.list c.in-Some.id).1 w.has in
    subst (λ (o : Option ℕ). IsSome o) (sym home) refl

pub loop-at-smaller : goal.loop-at-smaller
loop-at-smaller c =
    let xs = list_at c.args.lists.now c.args.list in
    let w = walked xs c.loop-at.at c.in-Some.id (c.front-at.ensures.sound.once c.args.list) c.in-Some.is c.loop-at.invariant.at in
    let home = (c.front-at.ensures.sound.home c.args.list c.in-Some.id).1 w.has in
    let next = c.next-at.ensures.next c.args.list home in
    let less = walk-shorter xs c.loop-at.at c.in-Some.id w in
    let same = ap (λ (o : Option ℕ). length (from o xs)) next in
    omega (arith, less, same)

pub returns-then-left-eq0 : goal.returns-then-left-eq0
returns-then-left-eq0 c =
    let xs = list_at c.args.lists.now c.args.list in
    let w = walked xs c.loop-at.at c.in-Some.id (c.front-at.ensures.sound.once c.args.list) c.in-Some.is c.loop-at.invariant.at in
    sym (walk-here-at (block_at c.args.blocks.now) (counts c.args.event) xs c.loop-at.at c.in-Some.id w c.loop-at.left (sym c.counts.ensures ∙ c.if-counts.true) c.if-left-eq0.true) ∙ c.loop-at.invariant.same

pub loop-at-preserved : goal.loop-at-preserved
loop-at-preserved c =
    let xs = list_at c.args.lists.now c.args.list in
    let w = walked xs c.loop-at.at c.in-Some.id (c.front-at.ensures.sound.once c.args.list) c.in-Some.is c.loop-at.invariant.at in
    let home = (c.front-at.ensures.sound.home c.args.list c.in-Some.id).1 w.has in
    let next = c.next-at.ensures.next c.args.list home in
    let f = block_at c.args.blocks.now in
    let p = counts c.args.event in
    let step : slice_get (threads_of (filter p (map f (from (behind c.in-Some.id xs) xs)))) c.if-counts.left ≡ slice_get (threads_of (filter p (map f (from c.loop-at.at xs)))) c.loop-at.left = elim c.if-counts.branch [
      | then-counts+else-left-eq0 v ↦
          let some : 0 < c.loop-at.left = omega arith in
          ap (slice_get (threads_of (filter p (map f (from (behind c.in-Some.id xs) xs))))) v.left-is ∙ walk-later-at f p xs c.loop-at.at c.in-Some.id w c.loop-at.left (sym c.counts.ensures ∙ v.if-counts.true) some
      | else-counts v ↦
          ap (slice_get (threads_of (filter p (map f (from (behind c.in-Some.id xs) xs))))) v.left-is ∙ walk-over-at f p xs c.loop-at.at c.in-Some.id w c.loop-at.left (sym c.counts.ensures ∙ v.if-counts.false)
    ] in
    record {
      at = next ∙ w.at ∙ ap (λ (o : Option ℕ). first_of (from o xs)) (sym next);
      same = ap (λ (o : Option ℕ). slice_get (threads_of (filter p (map f (from o xs)))) c.if-counts.left) next ∙ step ∙ c.loop-at.invariant.same;
    }
