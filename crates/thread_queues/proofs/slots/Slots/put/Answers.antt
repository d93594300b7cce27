use Rattle.std.proofs.Common.{◌≡◌, ◌<◌, ◌∙◌, ℕ, List, Option, Some, None, nat_eq, sym, ap, subst, arith}
use Rattle.std.proofs.Math.ListN.{set}
use Rattle.std.specs.HashMap.{get}
use Rattle.link_lists.specs.Lists.{list_count}
use Rattle.thread_queues.specs.declared.event.Due.{Due}
use Rattle.thread_queues.specs.Placed.{times}
use Rattle.thread_queues.specs.Slotted.{Slotted, put_in, IsApart}
use Rattle.thread_queues.specs.Laid.{bucket_of, IsLaid}
use Rattle.thread_queues.proofs.Laying.{live-found, free-at}
use Rattle.thread_queues.proofs.Putting.{IsPutInBucket, put-laid, put-shown}
use Rattle.thread_queues.proofs.slots.Slots.put.Goals as goal

none-some : {x : ℕ} → None ≡ Some x → ⊥
none-some e = cc

pub unreachable-requires : goal.unreachable-requires
unreachable-requires c =
    let s = live-found c.self.inside.alive c.self.inside.queues c.self.inside.buckets c.self.inside.blocks.items c.self.inside.limits (get nat_eq c.self.inside.numbers) c.self.invariant c.args.waiter.thread (subst (λ (z : Slotted). 0 < times c.args.waiter.thread z.live) (sym c.self.view_is) c.requires.lives) in
    none-some (c.in_default.ensures.value ∙ s.1)

pub index_mut-requires : goal.index_mut-requires
index_mut-requires c = let at = (free-at _ _ _ _ _ _ c.self.invariant c.args.waiter.thread c.in-Some.id.now (sym c.in-Some.ensures.value) (subst (λ (s : Slotted). IsApart s c.args.waiter.thread) (sym c.self.view_is) c.requires.apart)).in_blocks in omega (arith, at)

pub set-requires : goal.set-requires
set-requires c = (free-at _ _ _ _ _ _ c.self.invariant c.args.waiter.thread c.in-Some.id.now (sym c.in-Some.ensures.value) (subst (λ (s : Slotted). IsApart s c.args.waiter.thread) (sym c.self.view_is) c.requires.apart)).in_limits

pub push_back-requires-clause-there : goal.push_back-requires-clause-there
push_back-requires-clause-there c =
    let a = c.self.inside in
    (free-at _ _ _ _ _ _ c.self.invariant c.args.waiter.thread c.in-Some.id.now (sym c.in-Some.ensures.value) (subst (λ (s : Slotted). IsApart s c.args.waiter.thread) (sym c.self.view_is) c.requires.apart)).in_queues

pub push_back-requires-clause-free : goal.push_back-requires-clause-free
push_back-requires-clause-free c =
    (free-at _ _ _ _ _ _ c.self.invariant c.args.waiter.thread c.in-Some.id.now (sym c.in-Some.ensures.value) (subst (λ (s : Slotted). IsApart s c.args.waiter.thread) (sym c.self.view_is) c.requires.apart)).free

pub put-requires-clause-wide : goal.put-requires-clause-wide
put-requires-clause-wide c = c.self.invariant.bucketed.wide

pub put-requires-clause-there : goal.put-requires-clause-there
put-requires-clause-there c =
    (free-at _ _ _ _ _ _ c.self.invariant c.args.waiter.thread c.in-Some.id.now (sym c.in-Some.ensures.value) (subst (λ (s : Slotted). IsApart s c.args.waiter.thread) (sym c.self.view_is) c.requires.apart)).in_buckets

pub put-requires-clause-free : goal.put-requires-clause-free
put-requires-clause-free c =
    (free-at _ _ _ _ _ _ c.self.invariant c.args.waiter.thread c.in-Some.id.now (sym c.in-Some.ensures.value) (subst (λ (s : Slotted). IsApart s c.args.waiter.thread) (sym c.self.view_is) c.requires.apart)).unbucketed

pub put-requires-clause-sound : goal.put-requires-clause-sound
put-requires-clause-sound c = c.self.invariant.bucketed.sound

pub invariant_of-self : goal.invariant_of-self
invariant_of-self c =
    let a = c.self.inside in
    let x = c.in-Some.id.now in
    let at = free-at _ _ _ _ _ _ c.self.invariant c.args.waiter.thread x (sym c.in-Some.ensures.value) (subst (λ (s : Slotted). IsApart s c.args.waiter.thread) (sym c.self.view_is) c.requires.apart) in
    let bucket : IsPutInBucket a.buckets c.put.new.buckets c.args.queue (bucket_of (list_count a.buckets) c.args.waiter.event) x = record { lists = c.put.ensures.lists; counts = c.put.ensures.counts; sound = c.put.ensures.sound } in
    subst (λ (li : List (Option Due)). IsLaid a.alive c.push_back.new.self c.put.new.buckets (set a.blocks.items x c.args.waiter) li (get nat_eq a.numbers)) (sym (c.set.ensures ∙ ap (set a.limits x) c.limit_in.ensures))
    (put-laid a.alive a.queues a.buckets a.blocks.items a.limits (get nat_eq a.numbers) c.self.invariant c.push_back.new.self c.put.new.buckets c.args.queue x c.args.waiter c.requires.queue at.live at.number at.free
    (record { list = c.push_back.ensures.list; home = c.push_back.ensures.home; counts = c.push_back.ensures.counts; sound = c.push_back.ensures.sound }) bucket)

pub returns : goal.returns
returns c =
    let a = c.self.inside in
    let x = c.in-Some.id.now in
    let at = free-at _ _ _ _ _ _ c.self.invariant c.args.waiter.thread x (sym c.in-Some.ensures.value) (subst (λ (s : Slotted). IsApart s c.args.waiter.thread) (sym c.self.view_is) c.requires.apart) in
    let bucket : IsPutInBucket a.buckets c.put.new.buckets c.args.queue (bucket_of (list_count a.buckets) c.args.waiter.event) x = record { lists = c.put.ensures.lists; counts = c.put.ensures.counts; sound = c.put.ensures.sound } in
    put-shown a.alive a.queues a.buckets a.blocks.items a.limits (get nat_eq a.numbers) c.self.invariant c.push_back.new.self c.put.new.buckets c.args.queue x c.args.waiter c.requires.queue at.live at.number at.free
    (record { list = c.push_back.ensures.list; home = c.push_back.ensures.home; counts = c.push_back.ensures.counts; sound = c.push_back.ensures.sound }) bucket
    ∙ ap (λ (s : Slotted). put_in s c.args.queue c.args.waiter) c.self.view_is
