use Rattle.std.proofs.Common.{◌≡◌, ◌<◌, ◌∙◌, ℕ, List, Option, None, length, drop, sym, ap, subst}
use Rattle.std.proofs.Math.ListN.{set}
use Rattle.std.specs.List.{slice_get}
use Rattle.std.proofs.lemmas.List.{length-set}
use Rattle.thread_queues.specs.Placed.{Placed, queue, with_queue, running_at}
use Rattle.thread_queues.specs.Slotted.{Slotted, threads_of, queue_at, popped_from}
use Rattle.thread_queues.specs.Shown.{shown, ready_of}
use Rattle.thread_queues.specs.Kept.{placed_of, IsCounted}
use Rattle.thread_queues.proofs.Counted.{counted-dispatched}
use Rattle.thread_queues.proofs.Placing.{pop-shown, head-shown}
use Rattle.thread_queues.proofs.places.Threads.dispatch.Goals as goal

pub invariant_of-self : goal.invariant_of-self
invariant_of-self c =
    let a = c.self.inside in
    let p = placed_of a in
    let class = c.of_processor-class.result in
    let run = set a.running.items c.args.vp c.pop-thread.result in
    let head = c.pop-thread.ensures.head ∙ ap (λ (q : ℕ). slice_get (threads_of (queue_at a.slots q)) 0) c.ready_queue.ensures.queue ∙ ap (λ (ts : List ℕ). slice_get ts 0) (head-shown a.cpu a.tick a.slots.live run a.slots.queues class) in
    let e = ap (λ (s : Slotted). shown a.cpu a.tick s run) c.pop-thread.ensures.rest ∙ ap (λ (q : ℕ). shown a.cpu a.tick (popped_from a.slots q) run) c.ready_queue.ensures.queue
    ∙ pop-shown a.cpu a.tick a.slots.live run a.slots.queues c.self.invariant.six class
    ∙ ap (λ (o : Option ℕ). record p { ready = with_queue (ready_of a.slots) class (drop 1 (queue (ready_of a.slots) class)); running = set a.running.items c.args.vp o }) head in
    record {
      counted = subst IsCounted (sym e) (counted-dispatched p c.args.vp class (subst (λ (x : Placed). c.args.vp < length x.running) (sym c.self.view_is) c.requires.there) (subst (λ (x : Placed). running_at x c.args.vp ≡ None) (sym c.self.view_is) c.requires.free) c.self.invariant.counted);
      six = ap (λ (s : Slotted). length s.queues) c.pop-thread.ensures.rest ∙ length-set a.slots.queues _ _ ∙ c.self.invariant.six;
      few = c.self.invariant.few;
      live = c.self.invariant.live ∙ sym (ap (λ (s : Slotted). length s.live) (c.pop-thread.ensures.rest));
    }
