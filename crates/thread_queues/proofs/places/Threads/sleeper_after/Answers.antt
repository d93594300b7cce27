use Rattle.std.proofs.Common.{Some, None, refl, sym, subst}
use Rattle.thread_queues.specs.declared.event.Sleeper.{Sleeper}
use Rattle.thread_queues.specs.declared.order.Order.TheVariants.{Ticks}
use Rattle.thread_queues.specs.Least.{behind, IsLeast}
use Rattle.thread_queues.specs.Orders.{comes_before}
use Rattle.thread_queues.specs.Placed.{Placed}
use Rattle.thread_queues.specs.Shown.{sleeper}
use Rattle.thread_queues.specs.Slotted.{queue_at}
use Rattle.thread_queues.specs.Ticks.{is_due_before}
use Rattle.thread_queues.proofs.Choosing.{least-map}
use Rattle.thread_queues.proofs.places.Threads.sleeper_after.Goals as goal

pub returns-in_err-found : goal.returns-in_err-found
returns-in_err-found c =
    let i = least-map sleeper (comes_before Ticks) is_due_before (λ a b. refl) c.asleep.result (queue_at c.self.inside.slots 5) None c.args.sleeper c.asleep.ensures c.in_err-found.ensures in
    subst (IsLeast is_due_before (behind is_due_before c.args.sleeper c.args.self.now.sleeps)) (sym c.from_residual.ensures)
    (subst (λ (p : Placed). IsLeast is_due_before (behind is_due_before c.args.sleeper p.sleeps) None) c.self.view_is i)

pub returns : goal.returns
returns c =
    let i = least-map sleeper (comes_before Ticks) is_due_before (λ a b. refl) c.asleep.result (queue_at c.self.inside.slots 5) (Some c.in_ok-found.found) c.args.sleeper c.asleep.ensures c.in_ok-found.ensures in
    subst (λ (s : Sleeper). IsLeast is_due_before (behind is_due_before c.args.sleeper c.args.self.now.sleeps) (Some s)) (sym c.sleeper_of.ensures)
    (subst (λ (p : Placed). IsLeast is_due_before (behind is_due_before c.args.sleeper p.sleeps) (Some (sleeper c.in_ok-found.found))) c.self.view_is i)
