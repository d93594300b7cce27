use Rattle.std.proofs.Common.{◌≡◌, ◌<◌, ◌∙◌, ℕ, Some, None, nat_eq, sym, ap, subst}
use Rattle.std.specs.HashMap.{get}
use Rattle.std.proofs.lemmas.Bool.{ne_eqb}
use Rattle.thread_queues.specs.Placed.{times}
use Rattle.thread_queues.specs.Slotted.{Slotted, without_thread, IsApart}
use Rattle.thread_queues.proofs.Laying.{live-found, free-at}
use Rattle.thread_queues.proofs.Living.{removed-laid, removed-shown}
use Rattle.thread_queues.proofs.slots.Slots.remove.Goals as goal

none-some : {x : ℕ} → None ≡ Some x → ⊥
none-some e = cc

pub unreachable-requires : goal.unreachable-requires
unreachable-requires c =
    let s = live-found c.self.inside.alive c.self.inside.queues c.self.inside.buckets c.self.inside.blocks.items c.self.inside.limits (get nat_eq c.self.inside.numbers) c.self.invariant c.args.thread (subst (λ (z : Slotted). 0 < times c.args.thread z.live) (sym c.self.view_is) c.requires.lives) in
    none-some (c.in_default.ensures.value ∙ s.1)

pub invariant_of-self : goal.invariant_of-self
invariant_of-self c =
    let a = c.self.inside in
    let laid = c.self.invariant in
    let x = c.in-Some.id in
    let e = sym c.in-Some.ensures.value in
    let at = free-at a.alive a.queues a.buckets a.blocks.items a.limits (get nat_eq a.numbers) laid c.args.thread x e (subst (λ (s : Slotted). IsApart s c.args.thread) (sym c.self.view_is) c.requires.apart) in
    removed-laid a.alive a.queues a.buckets a.blocks.items a.limits (get nat_eq a.numbers) laid c.unlink.new.self c.push_back.new.self x c.args.thread at.number at.live at.free (record { list = c.unlink.ensures.list 0 at.live; home = c.unlink.ensures.home; counts = c.unlink.ensures.counts; sound = c.unlink.ensures.sound }) (record { list = c.push_back.ensures.list; home = c.push_back.ensures.home; counts = c.push_back.ensures.counts; sound = c.push_back.ensures.sound }) (get nat_eq c.remove.new.self) c.in-Some.ensures.updates.1 (λ u ne. c.in-Some.ensures.updates.2 u (ne_eqb c.args.thread u (λ s. ne (sym s))))

pub returns : goal.returns
returns c =
    let a = c.self.inside in
    let laid = c.self.invariant in
    let x = c.in-Some.id in
    let e = sym c.in-Some.ensures.value in
    let at = free-at a.alive a.queues a.buckets a.blocks.items a.limits (get nat_eq a.numbers) laid c.args.thread x e (subst (λ (s : Slotted). IsApart s c.args.thread) (sym c.self.view_is) c.requires.apart) in
    removed-shown a.alive a.queues a.buckets a.blocks.items a.limits (get nat_eq a.numbers) laid c.unlink.new.self c.push_back.new.self x c.args.thread at.number at.live at.free (record { list = c.unlink.ensures.list 0 at.live; home = c.unlink.ensures.home; counts = c.unlink.ensures.counts; sound = c.unlink.ensures.sound }) (record { list = c.push_back.ensures.list; home = c.push_back.ensures.home; counts = c.push_back.ensures.counts; sound = c.push_back.ensures.sound }) (get nat_eq c.remove.new.self) c.in-Some.ensures.updates.1 (λ u ne. c.in-Some.ensures.updates.2 u (ne_eqb c.args.thread u (λ s. ne (sym s)))) ∙ ap (λ (s : Slotted). without_thread s c.args.thread) c.self.view_is
