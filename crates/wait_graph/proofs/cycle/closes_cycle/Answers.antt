use Rattle.std.proofs.Common.{Result, Ok, Err, Option, Some, None, IfOk, IfSome}
use Rattle.wait_graph.proofs.Requests.{is-asked, cycle-from, cycle-to}
use Rattle.wait_graph.proofs.cycle.closes_cycle.Goals as goal

mapped : {V E : Type 0} (r : Result (Option V) E) (P Q : V → Type 0) → ((v : V) → P v → Q v) → IfOk r (λ o. IfSome o P) → IfOk r (λ o. IfSome o Q)
mapped (Ok (Some v)) P Q f h = f v h
mapped (Ok None) P Q f h = tt
mapped (Err e) P Q f h = tt

pub find_cycle-requires : goal.find_cycle-requires
find_cycle-requires c =
    let e = c.in_ok-asked.ensures in
    is-asked c.args.locks.now c.in_ok-asked.asked c.args.thread c.args.name c.args.mode e.start e.name e.queue c.ask.ensures.sound c.requires

pub returns-clause-cycle : goal.returns-clause-cycle
returns-clause-cycle c =
    let e = c.in_ok-asked.ensures in
    mapped c.find_cycle.result _ _ (λ v h. cycle-from c.args.locks.now c.in_ok-asked.asked c.args.thread c.args.name c.args.mode e.start e.name e.queue v.items h) c.find_cycle.ensures.found

pub returns-clause-none : goal.returns-clause-none
returns-clause-none c = λ h threads cycle.
    let e = c.in_ok-asked.ensures in
    c.find_cycle.ensures.none h threads (cycle-to c.args.locks.now c.in_ok-asked.asked c.args.thread c.args.name c.args.mode e.start e.name e.queue c.ask.ensures.sound c.requires threads cycle)
