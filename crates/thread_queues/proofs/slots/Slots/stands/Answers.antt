use Rattle.std.proofs.Common.{◌≡◌, ◌<◌, ◌∙◌, ℕ, Some, None, nat_eq, sym, subst}
use Rattle.std.specs.HashMap.{get}
use Rattle.thread_queues.specs.Placed.{times}
use Rattle.thread_queues.specs.Slotted.{Slotted, queue_at, threads_of}
use Rattle.thread_queues.proofs.Laying.{live-places, queue-found, queue-told, queue-home}
use Rattle.thread_queues.proofs.slots.Slots.stands.Goals as goal

none-some : {A : Type 0} {x : ℕ} → None ≡ Some x → A
none-some e = cc

pub home-requires : goal.home-requires
home-requires c =
    let a = c.self.inside in
    let f = (c.self.invariant.found c.args.thread c.in-Some.id.now).0 (sym c.in-Some.ensures.value) in
    (live-places a.alive a.queues a.buckets a.blocks.items a.limits (get nat_eq a.numbers) c.self.invariant c.in-Some.id.now f.0).0

pub returns-in-Some : goal.returns-in-Some
returns-in-Some c =
    let a = c.self.inside in
    let e = sym c.in-Some.ensures.value in (
      λ h. subst (λ (s : Slotted). 0 < times c.args.thread (threads_of (queue_at s c.args.queue))) c.self.view_is
          (queue-told a.alive a.queues a.buckets a.blocks.items a.limits (get nat_eq a.numbers) c.self.invariant c.args.queue c.args.thread c.in-Some.id.now e (sym c.home.ensures.home ∙ c.is_home.ensures.0 h)),
      λ h. c.is_home.ensures.1 (c.home.ensures.home ∙ queue-home a.alive a.queues a.buckets a.blocks.items a.limits (get nat_eq a.numbers) c.self.invariant c.args.queue c.args.thread c.in-Some.id.now e
          (subst (λ (s : Slotted). 0 < times c.args.thread (threads_of (queue_at s c.args.queue))) (sym c.self.view_is) h)),
    )

pub returns-in-None : goal.returns-in-None
returns-in-None c =
    let a = c.self.inside in (
      λ h. cc,
      λ h. none-some (c.in-None.ensures.value ∙ (queue-found a.alive a.queues a.buckets a.blocks.items a.limits (get nat_eq a.numbers) c.self.invariant c.args.queue c.args.thread (subst (λ (s : Slotted). 0 < times c.args.thread (threads_of (queue_at s c.args.queue))) (sym c.self.view_is) h)).1),
    )
