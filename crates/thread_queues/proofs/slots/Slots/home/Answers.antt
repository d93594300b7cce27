use Rattle.std.proofs.Common.{◌<◌, ℕ, Option, IfSome, IfNone, nat_eq, sym, subst}
use Rattle.std.specs.HashMap.{get}
use Rattle.thread_queues.specs.Placed.{times}
use Rattle.thread_queues.specs.Slotted.{Slotted, queue_at, threads_of, IsApart}
use Rattle.thread_queues.proofs.Laying.{live-places, lost-apart, home-told}
use Rattle.thread_queues.proofs.slots.Slots.home.Goals as goal

pub returns-in_err-id-clause-apart : goal.returns-in_err-id-clause-apart
returns-in_err-id-clause-apart c =
    let a = c.self.inside in
    subst (λ (o : Option ℕ). IfNone o (IsApart c.args.self.now c.args.thread)) (sym c.from_residual.ensures)
    (subst (λ (s : Slotted). IsApart s c.args.thread) c.self.view_is (lost-apart a.alive a.queues a.buckets a.blocks.items a.limits (get nat_eq a.numbers) c.self.invariant c.args.thread (sym c.in_err-id.ensures.value)))

pub home-requires : goal.home-requires
home-requires c =
    let a = c.self.inside in
    let f = (c.self.invariant.found c.args.thread c.in_ok-id.id.now).0 (sym c.in_ok-id.ensures.value) in
    (live-places a.alive a.queues a.buckets a.blocks.items a.limits (get nat_eq a.numbers) c.self.invariant c.in_ok-id.id.now f.0).0

pub returns-clause-queue : goal.returns-clause-queue
returns-clause-queue c =
    let a = c.self.inside in
    let told = home-told a.alive a.queues a.buckets a.blocks.items a.limits (get nat_eq a.numbers) c.self.invariant c.args.thread c.in_ok-id.id.now c.home.result (sym c.in_ok-id.ensures.value) c.home.ensures.home in
    subst (λ (s : Slotted). IfSome c.home.result (λ q. 0 < times c.args.thread (threads_of (queue_at s q)))) c.self.view_is told.0

pub returns-clause-apart : goal.returns-clause-apart
returns-clause-apart c =
    let a = c.self.inside in
    let told = home-told a.alive a.queues a.buckets a.blocks.items a.limits (get nat_eq a.numbers) c.self.invariant c.args.thread c.in_ok-id.id.now c.home.result (sym c.in_ok-id.ensures.value) c.home.ensures.home in
    subst (λ (s : Slotted). IfNone c.home.result (IsApart s c.args.thread)) c.self.view_is told.1
