use Rattle.std.proofs.Common.{◌==◌, ◌∙◌, ◌<◌, ℕ, List, length, map, nat_eq, ap, sym, refl, subst}
use Rattle.std.specs.HashMap.{get}
use Rattle.std.specs.List.{filter, slice_get}
use Rattle.std.proofs.lemmas.Bool.{eq-eqb}
use Rattle.link_lists.specs.Lists.{list_at, list_count}
use Rattle.thread_queues.specs.declared.event.Waiter.{Waiter}
use Rattle.thread_queues.specs.Events.{is_event}
use Rattle.thread_queues.specs.Slotted.{Slotted, queue_at, threads_of}
use Rattle.thread_queues.specs.Laid.{block_at, bucket_of}
use Rattle.thread_queues.proofs.Bucketing.{same-bucket, filter-filter}
use Rattle.thread_queues.proofs.Laying.{bucket-places}
use Rattle.thread_queues.proofs.Moving.{map-lists}
use Rattle.thread_queues.proofs.slots.Slots.waiter_at.Goals as goal

pub thread_at-requires-clause-blocks : goal.thread_at-requires-clause-blocks
thread_at-requires-clause-blocks c =
    let a = c.self.inside in
    λ x h. subst (λ (ws : List Waiter). x < length ws) (sym c.deref.ensures.value) (bucket-places a.alive a.queues a.buckets a.blocks.items a.limits (get nat_eq a.numbers) c.self.invariant c.bucket_of-bucket.result x h)

pub returns : goal.returns
returns c =
    let a = c.self.inside in
    let test = λ (w : Waiter). is_event w.event c.args.event in
    let at = λ (ws : List Waiter). slice_get (threads_of (filter test ws)) c.args.position in
    let b = bucket_of (list_count a.buckets) c.args.event in
    c.thread_at.ensures
    ∙ ap (λ (ws : List Waiter). at (map (block_at ws) (list_at a.buckets c.bucket_of-bucket.result))) c.deref.ensures.value
    ∙ ap (λ (n : ℕ). at (map (block_at a.blocks.items) (list_at a.buckets n))) (c.bucket_of-bucket.ensures.bucket ∙ ap (λ (n : ℕ). bucket_of n c.args.event) c.list_count.ensures)
    ∙ ap (λ (xs : List ℕ). at (map (block_at a.blocks.items) xs)) (c.self.invariant.bucketed.waiting b)
    ∙ ap (λ (ws : List Waiter). slice_get (threads_of ws) c.args.position) (filter-filter (block_at a.blocks.items) test (λ x. bucket_of (list_count a.buckets) (block_at a.blocks.items x).event == b) (list_at a.queues 4) (λ x h. eq-eqb (bucket_of (list_count a.buckets) (block_at a.blocks.items x).event) b (same-bucket (list_count a.buckets) (block_at a.blocks.items x).event c.args.event h)))
    ∙ ap at (sym (map-lists (map (block_at a.blocks.items)) a.queues.lists 4 refl))
    ∙ ap (λ (s : Slotted). at (queue_at s 4)) c.self.view_is
