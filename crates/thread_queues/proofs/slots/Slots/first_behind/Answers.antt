use Rattle.std.proofs.Common.{◌≡◌, ◌∙◌, List, None, map, refl, sym, ap, subst}
use Rattle.link_lists.specs.Lists.{list_at}
use Rattle.thread_queues.specs.declared.event.Waiter.{Waiter}
use Rattle.thread_queues.specs.Slotted.{Slotted, queue_at}
use Rattle.thread_queues.specs.Laid.{block_at}
use Rattle.thread_queues.specs.Least.{behind, IsLeast}
use Rattle.thread_queues.specs.Orders.{comes_before, first_from}
use Rattle.thread_queues.proofs.Choosing.{least-found}
use Rattle.thread_queues.proofs.Moving.{map-lists}
use Rattle.thread_queues.proofs.slots.Slots.first_behind.Goals as goal

pub returns : goal.returns
returns c =
    let a = c.self.inside in
    let q = c.args.queue in
    let first = first_from c.args.order c.args.from None in
    let e : c.first_behind.result ≡ first (queue_at c.args.self.now q) = c.first_behind.ensures
    ∙ ap (λ (ws : List Waiter). first (map (block_at ws) (list_at a.queues q))) c.deref.ensures.value
    ∙ ap first (sym (map-lists (map (block_at a.blocks.items)) a.queues.lists q refl))
    ∙ ap (λ (s : Slotted). first (queue_at s q)) c.self.view_is in
    subst (IsLeast (comes_before c.args.order) (behind (comes_before c.args.order) c.args.from (queue_at c.args.self.now q))) (sym e) (least-found c.args.order c.args.from (queue_at c.args.self.now q))
