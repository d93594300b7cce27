use Rattle.std.proofs.Common.{nat_eq, subst}
use Rattle.std.specs.HashMap.{get}
use Rattle.thread_queues.specs.Slotted.{Slotted, IsFirstOf}
use Rattle.thread_queues.proofs.Laying.{first-shown}
use Rattle.thread_queues.proofs.slots.Slots.first_limit.Goals as goal

pub returns : goal.returns
returns c =
    let a = c.self.inside in
    subst (λ (s : Slotted). IsFirstOf s c.first.result) c.self.view_is (first-shown a.alive a.queues a.buckets a.blocks.items a.limits (get nat_eq a.numbers) c.self.invariant c.first.result c.first.ensures)
