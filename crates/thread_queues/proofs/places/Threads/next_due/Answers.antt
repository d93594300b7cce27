use Rattle.std.proofs.Common.{Some, None, nat_lt, map, sym, subst}
use Rattle.thread_queues.specs.declared.event.Due.{Due}
use Rattle.thread_queues.specs.Least.{IsLeast}
use Rattle.thread_queues.specs.Placed.{Placed}
use Rattle.thread_queues.specs.Ticks.{limits}
use Rattle.thread_queues.proofs.Earliest.{first-tick}
use Rattle.thread_queues.proofs.places.Threads.next_due.Goals as goal

pub returns-in_err-due : goal.returns-in_err-due
returns-in_err-due c =
    let a = c.self.inside in
    subst (IsLeast nat_lt (map (λ (d : Due). d.tick) (limits c.args.self.now))) (sym c.from_residual.ensures)
    (subst (λ (p : Placed). IsLeast nat_lt (map (λ (d : Due). d.tick) (limits p)) None) c.self.view_is (first-tick a.slots c.self.invariant.six a.tick None c.in_err-due.ensures))

pub returns : goal.returns
returns c =
    let a = c.self.inside in
    subst (λ (p : Placed). IsLeast nat_lt (map (λ (d : Due). d.tick) (limits p)) (Some c.in_ok-due.due.tick)) c.self.view_is (first-tick a.slots c.self.invariant.six a.tick (Some c.in_ok-due.due) c.in_ok-due.ensures)
