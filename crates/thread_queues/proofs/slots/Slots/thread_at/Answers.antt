use Rattle.std.proofs.Common.{◌∙◌, List, map, refl, sym, ap}
use Rattle.std.specs.List.{slice_get}
use Rattle.link_lists.specs.Lists.{list_at}
use Rattle.thread_queues.specs.declared.event.Waiter.{Waiter}
use Rattle.thread_queues.specs.Slotted.{Slotted, queue_at, threads_of}
use Rattle.thread_queues.specs.Laid.{block_at}
use Rattle.thread_queues.proofs.Bucketing.{all-count}
use Rattle.thread_queues.proofs.Moving.{map-lists}
use Rattle.thread_queues.proofs.slots.Slots.thread_at.Goals as goal

pub returns : goal.returns
returns c =
    let a = c.self.inside in
    let q = c.args.queue in
    let at = λ (ws : List Waiter). slice_get (threads_of ws) c.args.position in
    c.thread_at.ensures
    ∙ ap at (all-count (map (block_at c.deref.result.now) (list_at a.queues q)))
    ∙ ap (λ (ws : List Waiter). at (map (block_at ws) (list_at a.queues q))) c.deref.ensures.value
    ∙ ap at (sym (map-lists (map (block_at a.blocks.items)) a.queues.lists q refl))
    ∙ ap (λ (s : Slotted). at (queue_at s q)) c.self.view_is
