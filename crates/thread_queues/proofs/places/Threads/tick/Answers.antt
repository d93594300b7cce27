use Rattle.std.proofs.Common.{◌∙◌, sym, ap, arith}
use Rattle.thread_queues.specs.Placed.{Placed}
use Rattle.thread_queues.specs.Ticks.{due_threads, still_count, due_woken}
use Rattle.thread_queues.proofs.Ticking.{due-still, woken-fewer, woken-next, first_of-none}
use Rattle.thread_queues.proofs.places.Threads.tick.Goals as goal

pub wake-requires : goal.wake-requires
wake-requires c = due-still c.loop-due.self c.in-Some.due (sym c.in-Some.ensures)

pub loop-due-smaller : goal.loop-due-smaller
loop-due-smaller c =
    let fewer = woken-fewer c.loop-due.self c.in-Some.due.thread (due-still c.loop-due.self c.in-Some.due (sym c.in-Some.ensures)) in
    let same = ap still_count c.wake.ensures in
    omega (arith, fewer, same)

pub loop-due-preserved : goal.loop-due-preserved
loop-due-preserved c = ap (λ (p : Placed). due_woken (still_count p) p) c.wake.ensures ∙ sym (woken-next c.loop-due.self c.in-Some.due (sym c.in-Some.ensures)) ∙ c.loop-due.invariant

pub returns-clause-none_due : goal.returns-clause-none_due
returns-clause-none_due c = first_of-none (due_threads c.loop-due.self) (sym c.in_default.ensures)
