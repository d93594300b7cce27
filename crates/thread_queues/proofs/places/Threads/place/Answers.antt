use Rattle.std.proofs.Common.{◌<◌, map, option_to_list, arith, sym, subst}
use Rattle.std.specs.List.{flat_map}
use Rattle.thread_queues.specs.declared.event.Sleeper.{Sleeper}
use Rattle.thread_queues.specs.declared.event.Waiter.{Waiter}
use Rattle.thread_queues.specs.Placed.{Placed, times, queue_of}
use Rattle.thread_queues.specs.Slotted.{queue_at}
use Rattle.thread_queues.proofs.Standing.{apart-runs, waits-for, last-sleeps}
use Rattle.thread_queues.proofs.places.Threads.place.Goals as goal

pub processor_of-requires : goal.processor_of-requires
processor_of-requires c =
    let a = c.self.inside in
    let live = subst (λ (p : Placed). 0 < times c.args.thread p.live) (sym c.self.view_is) c.requires in
    subst (λ (p : Placed). 0 < times c.args.thread (flat_map option_to_list p.running)) c.self.view_is (apart-runs a.cpu a.tick a.slots a.running.items c.args.thread c.self.invariant.counted live c.in-None.ensures.apart)

pub returns-in-Some-eq4 : goal.returns-in-Some-eq4
returns-in-Some-eq4 c =
    subst (λ (p : Placed). 0 < times c.args.thread (map (λ (w : Waiter). w.thread) (queue_of p c.waiter.result.event))) c.self.view_is
    (waits-for c.args.thread (queue_at c.self.inside.slots 4) c.waiter.result c.waiter.ensures)

pub returns-in-Some : goal.returns-in-Some
returns-in-Some c =
    subst (λ (p : Placed). 0 < times c.args.thread (map (λ (s : Sleeper). s.thread) p.sleeps)) c.self.view_is
    (last-sleeps c.self.inside.slots c.args.thread c.in-Some.field-0 c.self.invariant.six (omega (arith, c.in-Some.field-0-test)) c.in-Some.ensures.queue)
