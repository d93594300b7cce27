use Rattle.std.proofs.Common.{◌<◌, option_to_list, arith, sym, subst}
use Rattle.std.specs.List.{flat_map}
use Rattle.thread_queues.specs.Placed.{Placed, times}
use Rattle.thread_queues.proofs.Standing.{runs-at}
use Rattle.thread_queues.proofs.places.Threads.processor_of.Goals as goal

pub unreachable-requires : goal.unreachable-requires
unreachable-requires c =
    let runs = subst (λ (p : Placed). 0 < times c.args.thread (flat_map option_to_list p.running)) (sym c.self.view_is) c.requires in
    let r = runs-at c.args.thread c.self.inside.running.items runs in
    c.loop-vp.invariant r.0 (omega (arith, r.1, c.loop-vp-test.false, c.self.invariant.counted.processors)) r.2
