use Rattle.std.proofs.Common.{◌≡◌, ◌∙◌, true, false, nat_le, None, Some, arith, refl, sym, ap}
use Rattle.std.proofs.lemmas.Bool.Decides.{nat_tests}
use Rattle.thread_queues.specs.Ticks.{first_due}
use Rattle.thread_queues.proofs.Earliest.{first-come, first-later, first-never}
use Rattle.thread_queues.proofs.places.Threads.first_due.Goals as goal

pub returns-in_err-due : goal.returns-in_err-due
returns-in_err-due c =
    let a = c.self.inside in
    c.from_residual.ensures ∙ sym (first-never a.slots c.self.invariant.six a.tick None c.in_err-due.ensures refl) ∙ ap first_due c.self.view_is

pub returns-then-due-self : goal.returns-then-due-self
returns-then-due-self c =
    let a = c.self.inside in
    let d = c.in_ok-due.due in
    let h = c.if-due-self.true in
    let low : nat_le d.tick a.tick ≡ true = grind (arith, nat_tests, h) in
    sym (first-come a.slots c.self.invariant.six a.tick (Some d) c.in_ok-due.ensures d refl low) ∙ ap first_due c.self.view_is

pub returns-else-due-self : goal.returns-else-due-self
returns-else-due-self c =
    let a = c.self.inside in
    let d = c.in_ok-due.due in
    let h = c.if-due-self.false in
    let high : nat_le d.tick a.tick ≡ false = grind (arith, nat_tests, h) in
    sym (first-later a.slots c.self.invariant.six a.tick (Some d) c.in_ok-due.ensures d refl high) ∙ ap first_due c.self.view_is
