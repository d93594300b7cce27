use Rattle.std.proofs.Common.{◌≡◌, ◌<◌, ◌==◌, ◌∙◌, ℕ, List, Option, Some, None, IsSome, nat_eq, refl, sym, ap, subst, arith}
use Rattle.std.specs.List.{find}
use Rattle.std.specs.HashMap.{get}
use Rattle.std.proofs.lemmas.List.{get_or_default}
use Rattle.thread_queues.specs.declared.event.Due.{Due}
use Rattle.thread_queues.specs.declared.event.Waiter.{Waiter}
use Rattle.thread_queues.specs.Placed.{times}
use Rattle.thread_queues.specs.Slotted.{Slotted, queue_at, threads_of, taken_from}
use Rattle.thread_queues.specs.Laid.{no_waiter, slotted, IsLaid}
use Rattle.thread_queues.proofs.Laying.{queue-found, placed-at}
use Rattle.thread_queues.proofs.Leaving.{take-laid, take-shown, found-there}
use Rattle.thread_queues.proofs.slots.Slots.take.Goals as goal

none-some : {x : ℕ} → None ≡ Some x → ⊥
none-some e = cc

pub unreachable-requires : goal.unreachable-requires
unreachable-requires c =
    let a = c.self.inside in
    let s = queue-found a.alive a.queues a.buckets a.blocks.items a.limits (get nat_eq a.numbers) c.self.invariant c.args.queue c.args.thread (subst (λ (z : Slotted). 0 < times c.args.thread (threads_of (queue_at z c.args.queue))) (sym c.self.view_is) c.requires) in
    none-some (c.in_default.ensures.value ∙ s.1)

pub set-requires : goal.set-requires
set-requires c =
    let a = c.self.inside in
    let x = c.in-Some.id.now in
    let at = placed-at _ _ _ _ _ _ c.self.invariant c.args.queue c.args.thread x (sym c.in-Some.ensures.value) (subst (λ (s : Slotted). 0 < times c.args.thread (threads_of (queue_at s c.args.queue))) (sym c.self.view_is) c.requires) in at.in_limits

pub index-requires : goal.index-requires
index-requires c =
    let a = c.self.inside in
    let x = c.in-Some.id.now in
    let at = placed-at _ _ _ _ _ _ c.self.invariant c.args.queue c.args.thread x (sym c.in-Some.ensures.value) (subst (λ (s : Slotted). 0 < times c.args.thread (threads_of (queue_at s c.args.queue))) (sym c.self.view_is) c.requires) in
    let low = at.in_blocks in omega (arith, low)

pub unlink-requires : goal.unlink-requires
unlink-requires c =
    let a = c.self.inside in
    let x = c.in-Some.id.now in
    let at = placed-at _ _ _ _ _ _ c.self.invariant c.args.queue c.args.thread x (sym c.in-Some.ensures.value) (subst (λ (s : Slotted). 0 < times c.args.thread (threads_of (queue_at s c.args.queue))) (sym c.self.view_is) c.requires) in subst (λ (o : Option ℕ). IsSome o) (sym at.here) refl

pub take-requires-clause-there : goal.take-requires-clause-there
take-requires-clause-there c =
    let x = c.in-Some.id.now in
    let at = placed-at _ _ _ _ _ _ c.self.invariant c.args.queue c.args.thread x (sym c.in-Some.ensures.value) (subst (λ (s : Slotted). 0 < times c.args.thread (threads_of (queue_at s c.args.queue))) (sym c.self.view_is) c.requires) in at.in_buckets

pub take-requires-clause-sound : goal.take-requires-clause-sound
take-requires-clause-sound c = c.self.invariant.bucketed.sound

pub invariant_of-self : goal.invariant_of-self
invariant_of-self c =
    let a = c.self.inside in
    let x = c.in-Some.id.now in
    let at = placed-at _ _ _ _ _ _ c.self.invariant c.args.queue c.args.thread x (sym c.in-Some.ensures.value) (subst (λ (s : Slotted). 0 < times c.args.thread (threads_of (queue_at s c.args.queue))) (sym c.self.view_is) c.requires) in
    subst (λ (li : List (Option Due)). IsLaid a.alive c.unlink.new.self c.take.new.buckets a.blocks.items li (get nat_eq a.numbers)) (sym c.set.ensures)
    (take-laid a.alive a.queues a.buckets a.blocks.items a.limits (get nat_eq a.numbers) c.self.invariant c.unlink.new.self c.take.new.buckets c.args.queue x at.here (record { list = c.unlink.ensures.list c.args.queue at.here; home = c.unlink.ensures.home; counts = c.unlink.ensures.counts; sound = c.unlink.ensures.sound }) (record { lists = c.take.ensures.lists; counts = c.take.ensures.counts; sound = c.take.ensures.sound }))

pub returns-clause-waiter : goal.returns-clause-waiter
returns-clause-waiter c =
    let a = c.self.inside in
    let x = c.in-Some.id.now in
    let at = placed-at _ _ _ _ _ _ c.self.invariant c.args.queue c.args.thread x (sym c.in-Some.ensures.value) (subst (λ (s : Slotted). 0 < times c.args.thread (threads_of (queue_at s c.args.queue))) (sym c.self.view_is) c.requires) in
    ap (λ (s : Slotted). find (λ (w : Waiter). w.thread == c.args.thread) (queue_at s c.args.queue)) (sym c.self.view_is)
    ∙ ap (λ (n : ℕ). find (λ (w : Waiter). w.thread == n) (queue_at (slotted a.alive a.queues a.blocks.items) c.args.queue)) (sym at.number)
    ∙ found-there a.alive a.queues a.buckets a.blocks.items a.limits (get nat_eq a.numbers) c.self.invariant c.args.queue x at.here
    ∙ ap Some (get_or_default a.blocks.items x no_waiter c.index.result.now at.in_blocks ∙ sym c.index.ensures)

pub returns-clause-rest : goal.returns-clause-rest
returns-clause-rest c =
    let a = c.self.inside in
    let x = c.in-Some.id.now in
    let at = placed-at _ _ _ _ _ _ c.self.invariant c.args.queue c.args.thread x (sym c.in-Some.ensures.value) (subst (λ (s : Slotted). 0 < times c.args.thread (threads_of (queue_at s c.args.queue))) (sym c.self.view_is) c.requires) in
    take-shown a.alive a.queues a.buckets a.blocks.items a.limits (get nat_eq a.numbers) c.self.invariant c.unlink.new.self c.take.new.buckets c.args.queue x at.here (record { list = c.unlink.ensures.list c.args.queue at.here; home = c.unlink.ensures.home; counts = c.unlink.ensures.counts; sound = c.unlink.ensures.sound }) (record { lists = c.take.ensures.lists; counts = c.take.ensures.counts; sound = c.take.ensures.sound })
    ∙ ap (λ (n : ℕ). taken_from (slotted a.alive a.queues a.blocks.items) c.args.queue n) at.number
    ∙ ap (λ (s : Slotted). taken_from s c.args.queue c.args.thread) c.self.view_is
