use Rattle.std.proofs.Common.{◌∙◌, ap, is_some}
use Rattle.thread_queues.specs.declared.event.Waiter.{Waiter}
use Rattle.thread_queues.specs.Placed.{Placed, waiter_of}
use Rattle.thread_queues.specs.Slotted.{queue_at}
use Rattle.thread_queues.proofs.Placing.{found-counted}
use Rattle.thread_queues.proofs.places.Threads.waits.Goals as goal

pub returns : goal.returns
returns c =
    found-counted (λ (w : Waiter). w.thread) c.args.thread (queue_at c.self.inside.slots 4) c.stands.result c.stands.ensures
    ∙ ap (λ (x : Placed). is_some (waiter_of x c.args.thread)) c.self.view_is
