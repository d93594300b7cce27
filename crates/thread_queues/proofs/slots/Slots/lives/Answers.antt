use Rattle.std.proofs.Common.{◌≡◌, ◌<◌, ◌∙◌, ℕ, Bor, true, Option, Some, None, nat_eq, is_some, refl, sym, ap, subst}
use Rattle.std.specs.Option.{option_copied}
use Rattle.std.specs.HashMap.{get}
use Rattle.thread_queues.specs.Placed.{times}
use Rattle.thread_queues.specs.Slotted.{Slotted}
use Rattle.thread_queues.proofs.Laying.{live-found, live-told}
use Rattle.thread_queues.proofs.slots.Slots.lives.Goals as goal

copied-some : (o : Option (Bor ℕ)) → is_some (option_copied o) ≡ is_some o
copied-some None = refl
copied-some (Some b) = refl

known : (o : Option ℕ) → is_some o ≡ true → (x : ℕ) × (o ≡ Some x)
known None e = cc
known (Some x) e = (x, refl)

pub returns : goal.returns
returns c =
    let a = c.self.inside in
    let told : c.is_some.result ≡ is_some (get nat_eq a.numbers c.args.thread) = c.is_some.ensures ∙ sym (copied-some c.get.result) ∙ ap is_some c.get.ensures.value in (
      λ h. let k = known (get nat_eq a.numbers c.args.thread) (sym told ∙ h) in
          subst (λ (s : Slotted). 0 < times c.args.thread s.live) c.self.view_is (live-told a.alive a.queues a.buckets a.blocks.items a.limits (get nat_eq a.numbers) c.self.invariant c.args.thread k.0 k.1),
      λ h. let k = live-found a.alive a.queues a.buckets a.blocks.items a.limits (get nat_eq a.numbers) c.self.invariant c.args.thread (subst (λ (s : Slotted). 0 < times c.args.thread s.live) (sym c.self.view_is) h) in
          told ∙ ap is_some k.1,
    )
