use Rattle.std.proofs.Common.{◌==◌, ◌<◌, ◌∙◌, length, IsSome, option_map, sym, ap, subst}
use Rattle.std.proofs.lemmas.List.{length-set}
use Rattle.thread_queues.specs.Placed.{Placed, times, sleeper_of, roused}
use Rattle.thread_queues.specs.Slotted.{Slotted, queue_at, put_in, taken_from, IsApart}
use Rattle.thread_queues.specs.Shown.{shown, sleeper}
use Rattle.thread_queues.specs.Kept.{placed_of, IsCounted}
use Rattle.thread_queues.proofs.Waking.{find-sleeper, sleeps-counted, sleeps-out, sleeps-ready, sleeps-kept}
use Rattle.thread_queues.proofs.places.Threads.wake_sleeping.Goals as goal

pub take-waiter-requires : goal.take-waiter-requires
take-waiter-requires c =
    let a = c.self.inside in
    let there = subst (λ (x : Placed). IsSome (sleeper_of x c.args.thread)) (sym c.self.view_is) c.requires in
    sleeps-counted c.args.thread (queue_at a.slots 5) there

pub put-requires-clause-lives : goal.put-requires-clause-lives
put-requires-clause-lives c =
    let a = c.self.inside in
    let out = sleeps-out a.cpu a.tick a.slots a.running.items c.self.invariant.six c.self.invariant.counted c.args.thread c.take-waiter.result c.take-waiter.ensures.waiter c.ready_waiter.result.thread c.ready_waiter.ensures in
    subst (λ (s : Slotted). 0 < times c.ready_waiter.result.thread s.live) (sym c.take-waiter.ensures.rest) out.0

pub put-requires-clause-apart : goal.put-requires-clause-apart
put-requires-clause-apart c =
    let a = c.self.inside in
    let out = sleeps-out a.cpu a.tick a.slots a.running.items c.self.invariant.six c.self.invariant.counted c.args.thread c.take-waiter.result c.take-waiter.ensures.waiter c.ready_waiter.result.thread c.ready_waiter.ensures in
    subst (λ (s : Slotted). IsApart s c.ready_waiter.result.thread) (sym c.take-waiter.ensures.rest) out.1

pub invariant_of-self : goal.invariant_of-self
invariant_of-self c =
    let a = c.self.inside in
    let slots = c.put.ensures ∙ ap (λ (s : Slotted). put_in s c.ready_queue.result c.ready_waiter.result) c.take-waiter.ensures.rest in
    let e = ap (λ (s : Slotted). shown a.cpu a.tick s a.running.items) slots
    ∙ sleeps-ready a.cpu a.tick a.slots a.running.items c.self.invariant.six c.self.invariant.counted c.args.thread c.take-waiter.result c.take-waiter.ensures.waiter c.ready_queue.result c.ready_waiter.result c.ready_queue.ensures.queue c.ready_waiter.ensures in
    record {
      counted = subst IsCounted (sym e) (sleeps-kept a.cpu a.tick a.slots a.running.items c.self.invariant.six c.self.invariant.counted c.args.thread c.take-waiter.result c.take-waiter.ensures.waiter);
      six = ap (λ (s : Slotted). length s.queues) slots ∙ length-set (taken_from a.slots 5 c.args.thread).queues _ _ ∙ length-set a.slots.queues _ _ ∙ c.self.invariant.six;
      few = c.self.invariant.few;
      live = c.self.invariant.live ∙ sym (ap (λ (s : Slotted). length s.live) (slots));
    }

pub returns : goal.returns
returns c =
    let a = c.self.inside in
    let slots = c.put.ensures ∙ ap (λ (s : Slotted). put_in s c.ready_queue.result c.ready_waiter.result) c.take-waiter.ensures.rest in
    ap (λ (s : Slotted). shown a.cpu a.tick s a.running.items) slots
    ∙ sleeps-ready a.cpu a.tick a.slots a.running.items c.self.invariant.six c.self.invariant.counted c.args.thread c.take-waiter.result c.take-waiter.ensures.waiter c.ready_queue.result c.ready_waiter.result c.ready_queue.ensures.queue c.ready_waiter.ensures
    ∙ ap (roused (placed_of a) (λ s. s.thread == c.args.thread)) (sym (find-sleeper c.args.thread (queue_at a.slots 5) ∙ ap (option_map sleeper) c.take-waiter.ensures.waiter))
    ∙ ap (λ (x : Placed). roused x (λ s. s.thread == c.args.thread) (sleeper_of x c.args.thread)) c.self.view_is
