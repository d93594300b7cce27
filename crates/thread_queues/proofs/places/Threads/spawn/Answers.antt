use Rattle.std.proofs.Common.{◌≡◌, ◌<◌, ◌++◌, ◌∷◌, ◌∙◌, [], ℕ, length, length-append, sym, ap, subst, arith}
use Rattle.std.proofs.lemmas.List.{length-set}
use Rattle.thread_queues.specs.Placed.{Placed, times, readied, spawned}
use Rattle.thread_queues.specs.Slotted.{Slotted, with_thread, put_in, IsApart}
use Rattle.thread_queues.specs.Shown.{shown}
use Rattle.thread_queues.specs.Kept.{placed_of, IsCounted}
use Rattle.thread_queues.proofs.Counted.{absent, counted-spawned, added-lives}
use Rattle.thread_queues.proofs.Placing.{ready-shown, apart-six}
use Rattle.thread_queues.proofs.places.Threads.spawn.Goals as goal

pub put-requires-clause-lives : goal.put-requires-clause-lives
put-requires-clause-lives c =
    let a = c.self.inside in
    subst (λ (n : ℕ). 0 < times n c.add.new.self.live) (sym c.ready_waiter.ensures) (subst (λ (s : Slotted). 0 < times c.args.thread s.live) (sym c.in_ok-add.ensures.added) (added-lives a.slots.live c.args.thread))

pub put-requires-clause-apart : goal.put-requires-clause-apart
put-requires-clause-apart c =
    let a = c.self.inside in
    let new = subst (λ (x : Placed). times c.args.thread x.live ≡ 0) (sym c.self.view_is) c.requires.new in
    let none = absent (placed_of a) c.args.thread c.self.invariant.counted new in
    subst (λ (n : ℕ). IsApart c.add.new.self n) (sym c.ready_waiter.ensures) (subst (λ (s : Slotted). IsApart s c.args.thread) (sym c.in_ok-add.ensures.added) (apart-six (with_thread a.slots c.args.thread) c.self.invariant.six c.args.thread none.0 none.1 none.2))

pub invariant_of-self-2 : goal.invariant_of-self-2
invariant_of-self-2 c =
    let a = c.self.inside in
    let t = c.args.thread in
    let rw = c.ready_waiter.result in
    let new = subst (λ (x : Placed). times c.args.thread x.live ≡ 0) (sym c.self.view_is) c.requires.new in
    let slots = c.put.ensures ∙ ap (λ (s : Slotted). put_in s c.ready_queue.result rw) c.in_ok-add.ensures.added in
    let e = ap (λ (s : Slotted). shown a.cpu a.tick s a.running.items) slots ∙ ap (λ (q : ℕ). shown a.cpu a.tick (put_in (with_thread a.slots t) q rw) a.running.items) c.ready_queue.ensures.queue
    ∙ ready-shown a.cpu a.tick (a.slots.live ++ t ∷ []) a.running.items a.slots.queues c.self.invariant.six c.args.class rw
    ∙ ap (λ (n : ℕ). readied (shown a.cpu a.tick (with_thread a.slots t) a.running.items) c.args.class n) c.ready_waiter.ensures in
    record {
      counted = subst IsCounted (sym e) (counted-spawned (placed_of a) t c.args.class new c.self.invariant.counted);
      six = ap (λ (s : Slotted). length s.queues) slots ∙ length-set a.slots.queues _ _ ∙ c.self.invariant.six;
      few = c.self.invariant.few;
      live = omega (arith, c.self.invariant.live, ap (λ (s : Slotted). length s.live) (slots), length-append a.slots.live (t ∷ []));
    }

pub returns-clause-spawned : goal.returns-clause-spawned
returns-clause-spawned c =
    let a = c.self.inside in
    let t = c.args.thread in
    let rw = c.ready_waiter.result in
    let slots = c.put.ensures ∙ ap (λ (s : Slotted). put_in s c.ready_queue.result rw) c.in_ok-add.ensures.added in
    ap (λ (s : Slotted). shown a.cpu a.tick s a.running.items) slots ∙ ap (λ (q : ℕ). shown a.cpu a.tick (put_in (with_thread a.slots t) q rw) a.running.items) c.ready_queue.ensures.queue
    ∙ ready-shown a.cpu a.tick (a.slots.live ++ t ∷ []) a.running.items a.slots.queues c.self.invariant.six c.args.class rw
    ∙ ap (λ (n : ℕ). readied (shown a.cpu a.tick (with_thread a.slots t) a.running.items) c.args.class n) c.ready_waiter.ensures
    ∙ ap (λ (x : Placed). spawned x t c.args.class) c.self.view_is
