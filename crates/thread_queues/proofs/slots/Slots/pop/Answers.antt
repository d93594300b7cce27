use Rattle.std.proofs.Common.{◌≡◌, ◌==◌, ◌<◌, ◌∙◌, ℕ, Bool, cond, List, [], ◌∷◌, Some, nat_eq, map, drop, refl, sym, ap, subst, arith}
use Rattle.std.specs.HashMap.{get}
use Rattle.std.specs.List.{slice_get}
use Rattle.std.proofs.Math.ListN.{set}
use Rattle.std.proofs.lemmas.List.{get_or_default}
use Rattle.std.proofs.lemmas.Bool.{eq-eqb}
use Rattle.link_lists.specs.Lists.{list_at, first_of}
use Rattle.thread_queues.specs.declared.event.Waiter.{Waiter}
use Rattle.thread_queues.specs.Placed.{times, without_first}
use Rattle.thread_queues.specs.Slotted.{Slotted, queue_at, threads_of}
use Rattle.thread_queues.specs.Laid.{no_waiter, block_at}
use Rattle.thread_queues.proofs.Growing.{first-in}
use Rattle.thread_queues.proofs.Laying.{live-places}
use Rattle.thread_queues.proofs.Moving.{map-lists}
use Rattle.thread_queues.proofs.slots.Slots.pop.Goals as goal

head-of : (f : ℕ → Waiter) (xs : List ℕ) (x : ℕ) (ws : List Waiter) → Some x ≡ first_of xs → ws ≡ map f xs → ws ≡ f x ∷ drop 1 ws
head-of f [] x ws e s = cc
head-of f (y ∷ ys) x ws e s = let k : y ≡ x = cc in s ∙ ap (λ (w : Waiter). w ∷ map f ys) (ap f k) ∙ ap (λ (vs : List Waiter). f x ∷ vs) (sym (ap (drop 1) s))

counted-head : (w : Waiter) (ws : List Waiter) → 0 < times w.thread (threads_of (w ∷ ws))
counted-head w ws = let one = ap {B = ℕ} (λ (b : Bool). cond b 1 0) (eq-eqb w.thread w.thread refl) in omega (arith, one)

out-head : (w : Waiter) (ws : List Waiter) → without_first (λ v. v.thread == w.thread) (w ∷ ws) ≡ ws
out-head w ws = ap (λ (b : Bool). cond b ws (w ∷ without_first (λ v. v.thread == w.thread) ws)) (eq-eqb w.thread w.thread refl)

pub index-requires : goal.index-requires
index-requires c =
    let a = c.self.inside in
    let laid = c.self.invariant in
    let x = c.in_ok-first.first in
    let head = c.in_ok-first.ensures.front in
    let home = (laid.queues_sound.home c.args.queue x).1 (first-in (list_at a.queues c.args.queue) x head) in
    let lives = laid.lives x c.args.queue home in
    let there = live-places a.alive a.queues a.buckets a.blocks.items a.limits (get nat_eq a.numbers) laid x lives in
    let low = there.2 in omega (arith, low)

pub take-requires : goal.take-requires
take-requires c =
    let a = c.self.inside in
    let laid = c.self.invariant in
    let x = c.in_ok-first.first in
    let head = c.in_ok-first.ensures.front in
    let home = (laid.queues_sound.home c.args.queue x).1 (first-in (list_at a.queues c.args.queue) x head) in
    let lives = laid.lives x c.args.queue home in
    let there = live-places a.alive a.queues a.buckets a.blocks.items a.limits (get nat_eq a.numbers) laid x lives in
    let read : c.index.result.now ≡ block_at a.blocks.items x = c.index.ensures ∙ sym (get_or_default a.blocks.items x no_waiter c.index.result.now there.2) in
    let shown : queue_at c.args.self.now c.args.queue ≡ map (block_at a.blocks.items) (list_at a.queues c.args.queue) = ap (λ (s : Slotted). queue_at s c.args.queue) (sym c.self.view_is) ∙ map-lists (map (block_at a.blocks.items)) a.queues.lists c.args.queue refl in
    let whole : queue_at c.args.self.now c.args.queue ≡ block_at a.blocks.items x ∷ drop 1 (queue_at c.args.self.now c.args.queue) = head-of (block_at a.blocks.items) (list_at a.queues c.args.queue) x (queue_at c.args.self.now c.args.queue) head shown in
    subst (λ (w : Waiter). 0 < times w.thread (threads_of (queue_at c.args.self.now c.args.queue))) (sym read) (subst (λ (ws : List Waiter). 0 < times (block_at a.blocks.items x).thread (threads_of ws)) (sym whole) (counted-head (block_at a.blocks.items x) (drop 1 (queue_at c.args.self.now c.args.queue))))

pub returns-clause-head : goal.returns-clause-head
returns-clause-head c =
    let a = c.self.inside in
    let laid = c.self.invariant in
    let x = c.in_ok-first.first in
    let head = c.in_ok-first.ensures.front in
    let home = (laid.queues_sound.home c.args.queue x).1 (first-in (list_at a.queues c.args.queue) x head) in
    let lives = laid.lives x c.args.queue home in
    let there = live-places a.alive a.queues a.buckets a.blocks.items a.limits (get nat_eq a.numbers) laid x lives in
    let read : c.index.result.now ≡ block_at a.blocks.items x = c.index.ensures ∙ sym (get_or_default a.blocks.items x no_waiter c.index.result.now there.2) in
    let shown : queue_at c.args.self.now c.args.queue ≡ map (block_at a.blocks.items) (list_at a.queues c.args.queue) = ap (λ (s : Slotted). queue_at s c.args.queue) (sym c.self.view_is) ∙ map-lists (map (block_at a.blocks.items)) a.queues.lists c.args.queue refl in
    let whole : queue_at c.args.self.now c.args.queue ≡ block_at a.blocks.items x ∷ drop 1 (queue_at c.args.self.now c.args.queue) = head-of (block_at a.blocks.items) (list_at a.queues c.args.queue) x (queue_at c.args.self.now c.args.queue) head shown in
    ap (λ (w : Waiter). Some w.thread) read ∙ sym (ap (λ (ws : List Waiter). slice_get (threads_of ws) 0) whole)

pub returns-clause-rest : goal.returns-clause-rest
returns-clause-rest c =
    let a = c.self.inside in
    let laid = c.self.invariant in
    let x = c.in_ok-first.first in
    let head = c.in_ok-first.ensures.front in
    let home = (laid.queues_sound.home c.args.queue x).1 (first-in (list_at a.queues c.args.queue) x head) in
    let lives = laid.lives x c.args.queue home in
    let there = live-places a.alive a.queues a.buckets a.blocks.items a.limits (get nat_eq a.numbers) laid x lives in
    let read : c.index.result.now ≡ block_at a.blocks.items x = c.index.ensures ∙ sym (get_or_default a.blocks.items x no_waiter c.index.result.now there.2) in
    let shown : queue_at c.args.self.now c.args.queue ≡ map (block_at a.blocks.items) (list_at a.queues c.args.queue) = ap (λ (s : Slotted). queue_at s c.args.queue) (sym c.self.view_is) ∙ map-lists (map (block_at a.blocks.items)) a.queues.lists c.args.queue refl in
    let whole : queue_at c.args.self.now c.args.queue ≡ block_at a.blocks.items x ∷ drop 1 (queue_at c.args.self.now c.args.queue) = head-of (block_at a.blocks.items) (list_at a.queues c.args.queue) x (queue_at c.args.self.now c.args.queue) head shown in
    c.take.ensures.rest
    ∙ ap (λ (ws : List Waiter). record { live = c.args.self.now.live; queues = set c.args.self.now.queues c.args.queue ws })
    (ap (λ (w : Waiter). without_first (λ v. v.thread == w.thread) (queue_at c.args.self.now c.args.queue)) read ∙ ap (without_first (λ v. v.thread == (block_at a.blocks.items x).thread)) whole ∙ out-head (block_at a.blocks.items x) (drop 1 (queue_at c.args.self.now c.args.queue)))
