use Rattle.std.proofs.Common.{◌≡◌, ◌∙◌, ℕ, Option, None, Result, Ok, Err, OnErr, IsSome, length, nat_eq, refl, sym, ap, subst, arith}
use Rattle.std.specs.HashMap.{get}
use Rattle.std.specs.Map.{lookup}
use Rattle.std.proofs.lemmas.Bool.{ne_eqb}
use Rattle.std.proofs.lemmas.List.{length-map}
use Rattle.ids_base.specs.declared.class.Class.TheVariants.{Cpu}
use Rattle.link_lists.specs.Lists.{list_at}
use Rattle.thread_queues.specs.declared.event.Event.TheVariants.{Lock}
use Rattle.thread_queues.specs.Placed.{times}
use Rattle.thread_queues.specs.Slotted.{Slotted, with_thread}
use Rattle.thread_queues.specs.Laid.{number_at, IsLaid}
use Rattle.thread_queues.proofs.Growing.{grown-laid, grown-shown}
use Rattle.thread_queues.proofs.Living.{added-laid, added-shown}
use Rattle.thread_queues.proofs.slots.Slots.add.Goals as goal

-- what holds, holds on an error
on-err : {V E : Type 0} (r : Result V E) {A : Type 0} → A → OnErr r A
on-err (Ok v) h = tt
on-err (Err e) h = h

pub free_place-requires-clause-few : goal.free_place-requires-clause-few
free_place-requires-clause-few c =
    let a = c.self.inside in
    omega (arith, c.requires.few, ap (λ (s : Slotted). length s.live) c.self.view_is, length-map (list_at a.alive 0) (number_at a.blocks.items))

pub invariant_of-self : goal.invariant_of-self
invariant_of-self c =
    let a = c.self.inside in
    let n = c.free_place.new in
    grown-laid a.alive a.queues a.buckets a.blocks.items a.limits (get nat_eq a.numbers) c.self.invariant n.alive n.queues n.buckets n.blocks.items n.limits c.in_err-id.ensures.grown

pub returns-in_err-id-clause-unchanged : goal.returns-in_err-id-clause-unchanged
returns-in_err-id-clause-unchanged c =
    let a = c.self.inside in
    let n = c.free_place.new in
    on-err c.from_residual.result (grown-shown a.alive a.queues a.buckets a.blocks.items a.limits (get nat_eq a.numbers) c.self.invariant n.alive n.queues n.buckets n.blocks.items n.limits c.in_err-id.ensures.grown ∙ c.self.view_is)

pub invariant_of-self-in_err-insert : goal.invariant_of-self-in_err-insert
invariant_of-self-in_err-insert c =
    let a = c.self.inside in
    let n = c.free_place.new in
    let kept : get nat_eq c.insert.new.self ≡ get nat_eq a.numbers = ap (λ es t. lookup (nat_eq t) es) c.in_err-insert.ensures.err in
    subst (λ (f : ℕ → Option ℕ). IsLaid n.alive n.queues n.buckets n.blocks.items n.limits f) (sym kept) (grown-laid a.alive a.queues a.buckets a.blocks.items a.limits (get nat_eq a.numbers) c.self.invariant n.alive n.queues n.buckets n.blocks.items n.limits c.in_ok-id.ensures.grown)

pub returns-in_err-insert-clause-unchanged : goal.returns-in_err-insert-clause-unchanged
returns-in_err-insert-clause-unchanged c =
    let a = c.self.inside in
    let n = c.free_place.new in
    on-err c.from_residual-in_err-insert.result (grown-shown a.alive a.queues a.buckets a.blocks.items a.limits (get nat_eq a.numbers) c.self.invariant n.alive n.queues n.buckets n.blocks.items n.limits c.in_ok-id.ensures.grown ∙ c.self.view_is)

pub unlink-requires : goal.unlink-requires
unlink-requires c = subst (λ (o : Option ℕ). IsSome o) (sym c.in_ok-id.ensures.free) refl

pub push_back-requires-clause-there : goal.push_back-requires-clause-there
push_back-requires-clause-there c =
    let there = (c.in_ok-id.ensures.grown.live.sound.there 1 c.in_ok-id.id c.in_ok-id.ensures.free).1 in
    let counts = c.unlink.ensures.counts.ids in
    omega (arith, there, counts)

pub invariant_of-self-2 : goal.invariant_of-self-2
invariant_of-self-2 c =
    let a = c.self.inside in
    let n = c.free_place.new in
    let grown = c.in_ok-id.ensures.grown in
    let laid = grown-laid a.alive a.queues a.buckets a.blocks.items a.limits (get nat_eq a.numbers) c.self.invariant n.alive n.queues n.buckets n.blocks.items n.limits grown in
    let x = c.in_ok-id.id in
    let free = c.in_ok-id.ensures.free in
    let shown = grown-shown a.alive a.queues a.buckets a.blocks.items a.limits (get nat_eq a.numbers) c.self.invariant n.alive n.queues n.buckets n.blocks.items n.limits grown in
    added-laid n.alive n.queues n.buckets n.blocks.items n.limits (get nat_eq a.numbers) laid c.unlink.new.self c.push_back.new.self x c.args.thread (record { event = Lock; thread = c.args.thread; class = Cpu; due = None }) refl free (ap (λ (s : Slotted). times c.args.thread s.live) (shown ∙ c.self.view_is) ∙ c.requires.new) (record { list = c.unlink.ensures.list 1 free; home = c.unlink.ensures.home; counts = c.unlink.ensures.counts; sound = c.unlink.ensures.sound }) (record { list = c.push_back.ensures.list; home = c.push_back.ensures.home; counts = c.push_back.ensures.counts; sound = c.push_back.ensures.sound }) (get nat_eq c.insert.new.self) c.in_ok-insert.ensures.updates.1 (λ u ne. c.in_ok-insert.ensures.updates.2 u (ne_eqb c.args.thread u (λ e. ne (sym e))))

pub returns-clause-added : goal.returns-clause-added
returns-clause-added c =
    let a = c.self.inside in
    let n = c.free_place.new in
    let grown = c.in_ok-id.ensures.grown in
    let laid = grown-laid a.alive a.queues a.buckets a.blocks.items a.limits (get nat_eq a.numbers) c.self.invariant n.alive n.queues n.buckets n.blocks.items n.limits grown in
    let x = c.in_ok-id.id in
    let free = c.in_ok-id.ensures.free in
    let shown = grown-shown a.alive a.queues a.buckets a.blocks.items a.limits (get nat_eq a.numbers) c.self.invariant n.alive n.queues n.buckets n.blocks.items n.limits grown in
    added-shown n.alive n.queues n.buckets n.blocks.items n.limits (get nat_eq a.numbers) laid c.unlink.new.self c.push_back.new.self x c.args.thread (record { event = Lock; thread = c.args.thread; class = Cpu; due = None }) refl free (ap (λ (s : Slotted). times c.args.thread s.live) (shown ∙ c.self.view_is) ∙ c.requires.new) (record { list = c.unlink.ensures.list 1 free; home = c.unlink.ensures.home; counts = c.unlink.ensures.counts; sound = c.unlink.ensures.sound }) (record { list = c.push_back.ensures.list; home = c.push_back.ensures.home; counts = c.push_back.ensures.counts; sound = c.push_back.ensures.sound }) (get nat_eq c.insert.new.self) c.in_ok-insert.ensures.updates.1 (λ u ne. c.in_ok-insert.ensures.updates.2 u (ne_eqb c.args.thread u (λ e. ne (sym e)))) ∙ ap (λ (s : Slotted). with_thread s c.args.thread) (shown ∙ c.self.view_is)
