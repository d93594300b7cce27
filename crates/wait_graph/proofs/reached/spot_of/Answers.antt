use Rattle.std.proofs.Common.{◌∙◌, ap, sym, subst, nat_eq, IsSome}
use Rattle.std.specs.Option.{option_copied}
use Rattle.indexmap.specs.IndexMap.{get}
use Rattle.wait_graph.proofs.Loads.{nowhere-waits, waits-queued}
use Rattle.wait_graph.proofs.reached.spot_of.Goals as goal

pub returns-in_default-name_waited-clause-none : goal.returns-in_default-name_waited-clause-none
returns-in_default-name_waited-clause-none c = λ h b edge. nowhere-waits c.args.locks.now c.args.asked.now c.args.thread (sym c.name_waited.ensures ∙ c.in_default-name_waited.is) b edge

pub returns-in-None-clause-none : goal.returns-in-None-clause-none
returns-in-None-clause-none c = λ h b edge.
    let name = c.in-Some-name_waited.name in
    let q = waits-queued c.args.locks.now c.args.asked.now c.args.thread name (sym c.name_waited.ensures ∙ c.in-Some-name_waited.is) b edge in
    let some : IsSome (get nat_eq c.load.new.reached.spots c.args.thread) = c.in_ok-load.ensures.all c.args.thread q in
    let never = subst (λ o. IsSome o) (sym c.get-2.ensures.value ∙ ap option_copied c.in-None.is) some in
    cc
