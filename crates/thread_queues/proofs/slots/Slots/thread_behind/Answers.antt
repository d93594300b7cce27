use Rattle.std.proofs.Common.{◌∙◌, nat_lt, List, None, Some, map, sym, ap, subst}
use Rattle.link_lists.specs.Lists.{list_at}
use Rattle.thread_queues.specs.declared.event.Waiter.{Waiter}
use Rattle.thread_queues.specs.declared.order.Order.TheVariants.{Number}
use Rattle.thread_queues.specs.Slotted.{Slotted}
use Rattle.thread_queues.specs.Laid.{block_at}
use Rattle.thread_queues.specs.Least.{behind, IsLeast}
use Rattle.thread_queues.specs.Orders.{first_from}
use Rattle.thread_queues.proofs.Choosing.{live-least}
use Rattle.thread_queues.proofs.slots.Slots.thread_behind.Goals as goal

pub returns-in_err-found : goal.returns-in_err-found
returns-in_err-found c =
    let a = c.self.inside in
    let e = c.in_err-found.ensures ∙ ap (λ (ws : List Waiter). first_from Number c.numbered-from.result None (map (block_at ws) (list_at a.alive 0))) c.deref.ensures.value in
    subst (IsLeast nat_lt (behind nat_lt c.args.thread c.args.self.now.live)) (sym c.from_residual.ensures)
    (subst (λ (s : Slotted). IsLeast nat_lt (behind nat_lt c.args.thread s.live) None) c.self.view_is (live-least a.blocks.items (list_at a.alive 0) c.numbered-from.result c.args.thread None c.numbered-from.ensures e))

pub returns : goal.returns
returns c =
    let a = c.self.inside in
    let e = c.in_ok-found.ensures ∙ ap (λ (ws : List Waiter). first_from Number c.numbered-from.result None (map (block_at ws) (list_at a.alive 0))) c.deref.ensures.value in
    subst (λ (s : Slotted). IsLeast nat_lt (behind nat_lt c.args.thread s.live) (Some c.in_ok-found.found.thread)) c.self.view_is (live-least a.blocks.items (list_at a.alive 0) c.numbered-from.result c.args.thread (Some c.in_ok-found.found) c.numbered-from.ensures e)
