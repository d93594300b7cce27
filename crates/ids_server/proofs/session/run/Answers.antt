use Rattle.ids_server.proofs.Carrying.{puts-flushed}
use Rattle.ids_server.proofs.session.run.Goals as goal

pub returns-then-has_failed-clause-ran : goal.returns-then-has_failed-clause-ran
returns-then-has_failed-clause-ran g c = λ plans bytes is each.
    let has = c.run_all-status.ensures.ran plans bytes is each in
    record { matches = has.matches; legal = has.legal; replies = has.replies; timely = has.timely; answered = λ e. cc }

pub returns-then-has_failed-clause-printed : goal.returns-then-has_failed-clause-printed
returns-then-has_failed-clause-printed g c = puts-flushed _ _ _ _ c.run_all-status.ensures.printed c.flush.ensures.grows c.flush.ensures.carries c.flush.ensures.caused

pub returns-else-has_failed-clause-printed : goal.returns-else-has_failed-clause-printed
returns-else-has_failed-clause-printed g c = puts-flushed _ _ _ _ c.run_all-status.ensures.printed c.flush.ensures.grows c.flush.ensures.carries c.flush.ensures.caused
