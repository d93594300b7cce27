use Rattle.std.proofs.Common.{◌≡◌, ◌<◌, ◌==◌, ◌∙◌, ℕ, Some, None, nat_eq, sym, ap, subst, arith}
use Rattle.std.specs.List.{find}
use Rattle.std.specs.HashMap.{get}
use Rattle.std.proofs.lemmas.List.{get_or_default}
use Rattle.thread_queues.specs.declared.event.Waiter.{Waiter}
use Rattle.thread_queues.specs.Placed.{times}
use Rattle.thread_queues.specs.Slotted.{Slotted, queue_at, threads_of}
use Rattle.thread_queues.specs.Laid.{no_waiter, slotted}
use Rattle.thread_queues.proofs.Laying.{queue-found, placed-at}
use Rattle.thread_queues.proofs.Leaving.{found-there}
use Rattle.thread_queues.proofs.slots.Slots.waiter.Goals as goal

none-some : {x : ℕ} → None ≡ Some x → ⊥
none-some e = cc

pub unreachable-requires : goal.unreachable-requires
unreachable-requires c =
    let a = c.self.inside in
    let s = queue-found a.alive a.queues a.buckets a.blocks.items a.limits (get nat_eq a.numbers) c.self.invariant c.args.queue c.args.thread (subst (λ (z : Slotted). 0 < times c.args.thread (threads_of (queue_at z c.args.queue))) (sym c.self.view_is) c.requires) in
    none-some (c.in_default.ensures.value ∙ s.1)

pub index-requires : goal.index-requires
index-requires c =
    let a = c.self.inside in
    let at = placed-at a.alive a.queues a.buckets a.blocks.items a.limits (get nat_eq a.numbers) c.self.invariant c.args.queue c.args.thread c.in-Some.id.now (sym c.in-Some.ensures.value) (subst (λ (s : Slotted). 0 < times c.args.thread (threads_of (queue_at s c.args.queue))) (sym c.self.view_is) c.requires) in
    let low = at.in_blocks in omega (arith, low)

pub returns : goal.returns
returns c =
    let a = c.self.inside in
    let x = c.in-Some.id.now in
    let at = placed-at a.alive a.queues a.buckets a.blocks.items a.limits (get nat_eq a.numbers) c.self.invariant c.args.queue c.args.thread x (sym c.in-Some.ensures.value) (subst (λ (s : Slotted). 0 < times c.args.thread (threads_of (queue_at s c.args.queue))) (sym c.self.view_is) c.requires) in
    ap (λ (s : Slotted). find (λ (w : Waiter). w.thread == c.args.thread) (queue_at s c.args.queue)) (sym c.self.view_is)
    ∙ ap (λ (n : ℕ). find (λ (w : Waiter). w.thread == n) (queue_at (slotted a.alive a.queues a.blocks.items) c.args.queue)) (sym at.number)
    ∙ found-there a.alive a.queues a.buckets a.blocks.items a.limits (get nat_eq a.numbers) c.self.invariant c.args.queue x at.here
    ∙ ap Some (get_or_default a.blocks.items x no_waiter c.index.result.now at.in_blocks ∙ sym c.index.ensures)
