use Rattle.std.proofs.Common.{◌≡◌}
use Rattle.thread_queues.specs.Ticks.{still_count, due_woken, ticked}
use Rattle.thread_queues.proofs.places.Threads.tick.Given as goal

abbrev pub invariant-loop-due : goal.invariant-loop-due
invariant-loop-due l = due_woken (still_count l.self) l.self ≡ ticked l.fn.self

abbrev pub decreases-loop-due : goal.decreases-loop-due
decreases-loop-due l = still_count l.self
