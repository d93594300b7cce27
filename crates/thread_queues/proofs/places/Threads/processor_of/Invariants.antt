use Rattle.std.proofs.Common.{◌≡◌, ℕ, ◌<◌, Some, None, get_or}
use Rattle.thread_queues.proofs.places.Threads.processor_of.Given as goal

abbrev pub invariant-loop-vp : goal.invariant-loop-vp
invariant-loop-vp l = (k : ℕ) → k < l.vp → get_or l.self-inside.running.items k None ≡ Some l.thread → ⊥
