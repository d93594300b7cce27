use Rattle.std.proofs.Common.{◌≡◌, ◌==◌, ◌∙◌, IsSome, subst}
use Rattle.thread_queues.specs.declared.event.Waiter.{Waiter}
use Rattle.thread_queues.specs.Placed.{Placed, waiter_of, woken_waiter, woken_one}
use Rattle.thread_queues.specs.Kept.{placed_of}
use Rattle.thread_queues.proofs.Waking.{first-woken}
use Rattle.thread_queues.proofs.places.Threads.wake_one.Goals as goal

pub wake_waiting-requires : goal.wake_waiting-requires
wake_waiting-requires c =
    let w = first-woken (placed_of c.self.inside) c.args.event c.in_ok-thread.thread c.self.invariant.counted c.in_ok-thread.ensures in
    subst (λ (x : Placed). IsSome (waiter_of x c.in_ok-thread.thread)) c.self.view_is w.0

pub returns-clause-woken : goal.returns-clause-woken
returns-clause-woken c =
    let w = first-woken (placed_of c.self.inside) c.args.event c.in_ok-thread.thread c.self.invariant.counted c.in_ok-thread.ensures in
    let t = c.in_ok-thread.thread in
    c.wake_waiting.ensures ∙ subst (λ (x : Placed). woken_waiter x (λ (w : Waiter). w.thread == t) (waiter_of x t) ≡ woken_one x c.args.event) c.self.view_is w.1
