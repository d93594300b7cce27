use Rattle.std.proofs.Common.{Some, None, map, refl, sym, subst}
use Rattle.thread_queues.specs.declared.event.Waiter.{Waiter}
use Rattle.thread_queues.specs.declared.order.Order.TheVariants.{Events}
use Rattle.thread_queues.specs.Events.{is_event_before}
use Rattle.thread_queues.specs.Least.{behind, IsLeast}
use Rattle.thread_queues.specs.Orders.{comes_before}
use Rattle.thread_queues.specs.Placed.{Placed}
use Rattle.thread_queues.specs.Slotted.{queue_at}
use Rattle.thread_queues.proofs.Choosing.{least-map}
use Rattle.thread_queues.proofs.places.Threads.event_after.Goals as goal

pub returns-in_err-found : goal.returns-in_err-found
returns-in_err-found c =
    let waits = queue_at c.self.inside.slots 4 in
    let i = least-map (λ (w : Waiter). w.event) (comes_before Events) is_event_before (λ a b. refl) c.any_waiter.result waits None c.args.event c.any_waiter.ensures c.in_err-found.ensures in
    subst (IsLeast is_event_before (behind is_event_before c.args.event (map (λ (w : Waiter). w.event) c.args.self.now.waits))) (sym c.from_residual.ensures)
    (subst (λ (p : Placed). IsLeast is_event_before (behind is_event_before c.args.event (map (λ (w : Waiter). w.event) p.waits)) None) c.self.view_is i)

pub returns : goal.returns
returns c =
    let waits = queue_at c.self.inside.slots 4 in
    let i = least-map (λ (w : Waiter). w.event) (comes_before Events) is_event_before (λ a b. refl) c.any_waiter.result waits (Some c.in_ok-found.found) c.args.event c.any_waiter.ensures c.in_ok-found.ensures in
    subst (λ (p : Placed). IsLeast is_event_before (behind is_event_before c.args.event (map (λ (w : Waiter). w.event) p.waits)) (Some c.in_ok-found.found.event)) c.self.view_is i
