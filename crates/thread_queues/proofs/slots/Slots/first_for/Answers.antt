use Rattle.std.proofs.Common.{◌∙◌}
use Rattle.thread_queues.specs.declared.event.Waiter.{Waiter}
use Rattle.thread_queues.specs.Events.{is_event}
use Rattle.thread_queues.specs.Slotted.{queue_at}
use Rattle.thread_queues.proofs.Bucketing.{first-passing}
use Rattle.thread_queues.proofs.slots.Slots.first_for.Goals as goal

pub returns : goal.returns
returns c = c.waiter_at.ensures ∙ first-passing (λ (w : Waiter). is_event w.event c.args.event) (queue_at c.args.self.now 4)
