use Rattle.std.proofs.Common.{◌≡◌, ◌+◌, ◌∙◌, ℕ, Option, None, length, map, replicate, ap, arith, sym}
use Rattle.thread_queues.specs.Slotted.{Slotted}
use Rattle.thread_queues.specs.Shown.{sleeper, ready_of}
use Rattle.thread_queues.specs.Slotted.{queue_at}
use Rattle.thread_queues.proofs.Counting.{counted-idle}
use Rattle.thread_queues.proofs.places.Threads.new.Goals as goal

pub invariant_of-result : goal.invariant_of-result
invariant_of-result c =
    let whole : c.loop.counter ≡ c.args.cpu + 3 = omega arith in
    let none = c.in_ok-slots.ensures in
    record {
      counted = counted-idle _ (ap (λ (s : Slotted). s.live) none) (ap ready_of none) (ap (λ (s : Slotted). queue_at s 4) none) (ap (λ (s : Slotted). map sleeper (queue_at s 5)) none) (c.loop.invariant.empty ∙ ap (λ (n : ℕ). replicate {A = Option ℕ} n None) whole);
      six = ap (λ (s : Slotted). length s.queues) none;
      few = c.requires;
      live = sym (ap (λ (s : Slotted). length s.live) none);
    }
