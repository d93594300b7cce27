use Rattle.std.proofs.Common.{◌≡◌, ◌∙◌, sym, ap, subst, ◌+◌, List, inl, inr, arith}
use Rattle.std.specs.FinMap as map
use Rattle.ids_model.specs.declared.journal.Committed.{Committed}
use Rattle.ids_model.specs.Tables.{Tables}
use Rattle.ids_engine.specs.Openings.{Refuses}
use Rattle.ids_engine.specs.OutOfBlocks.{HasNoBlock}
use Rattle.fast_recovery.specs.declared.fault.OpenFault.TheVariants.{Disk}
use Rattle.ids_engine.specs.declared.store.Store.{Store}
use Rattle.ids_server.specs.Serving.{HasRun, has_opened, is_before_disk, is_of_refused_disk}
use Rattle.ids_server.proofs.Told.{sessions_look, sessions_accept, sessions_read}
use Rattle.ids_server.proofs.Opened.{runs_nothing, runs_shown, keeps_at_start, runs_over}
use Rattle.ids_server.proofs.opening.run_script.Goals as goal

pub returns-in-Err-clause-ran : goal.returns-in-Err-clause-ran
returns-in-Err-clause-ran g c = λ bytes is grammar.
    let none : Tables = map.empty in (
      none,
      runs_nothing g.D.Disk.tells g.D.Disk.now g.D.Disk.image g.D.Disk.can_leave g.D.Disk.left_at c.served_at_start.ensures bytes none _ _ _ _ _ _ c.nothing.ensures.journal c.nothing.ensures.given
          (λ done. c.status_of.ensures.not_done (sym c.nothing.ensures.status ∙ done)) (λ _. grammar)
          (λ byte why told. absurd (c.status_of.ensures.no_bad_script byte why (sym c.nothing.ensures.status ∙ told)))
          (λ failed. c.nothing.ensures.status ∙ c.status_of.ensures.disk.1 (let fault : c.in-Err.fault ≡ Disk = cc in fault)) c.in-Err.ensures.any_moment,
    )

pub returns-clause-ran : goal.returns-clause-ran
returns-clause-ran g c = λ bytes is grammar.
    let runner = c.new-runner.result in
    let store = c.in-Ok.store in
    let start = keeps_at_start g.D.Disk.tells g.D.Disk runner store c.new-runner.ensures.running c.new-runner.ensures.store in (
      store.tables,
      runs_shown g.D.Disk.tells g.D.Disk.now g.D.Disk.image g.D.Disk.can_leave g.D.Disk.left_at bytes store.tables c.args.disk.now c.run-status.new.disk c.run-status.result _ _ _ _
          c.into_parts-journal.ensures.journal c.into_parts-journal.ensures.given
          (runs_over g.D.Disk.tells g.D.Disk
          (record { scripts = c.every_script_has_plans.ensures; covered = c.firsts_are_covered.ensures; leave = c.transactions_leave_tables.ensures }) g.met.D.Disk.left_tells
          bytes store c.args.disk.now c.from_disk.new.disk c.run-status.new.disk c.run-status.result c.run-status.new.runner.journal.items c.run-status.new.runner.given.items grammar
          (λ byte why told. absurd (sessions_read c.run-status.result c.run-status.ensures.own byte why told))
          c.in-Ok.ensures.kept
          (λ script each. subst (λ (s : Store). HasRun script s.tables c.run-status.result c.run-status.new.runner.journal.items c.run-status.new.runner.given.items) c.new-runner.ensures.store
          (c.run-status.ensures.ran script bytes is each))
          c.run-status.ensures.moments
          (λ since base found keeps. c.run-status.ensures.survives since base found (start since base found c.from_disk.new.disk keeps))
          (λ done since base found keeps. c.run-status.ensures.at_end done since base found (start since base found c.from_disk.new.disk keeps))),
    )

pub returns-in-Err-clause-log_full : goal.returns-in-Err-clause-log_full
returns-in-Err-clause-log_full g c = λ full told T recovers.
    inr (subst (λ e. Refuses (g.D.Disk.image c.args.disk.now) e) (c.status_of.ensures.log_full (sym c.nothing.ensures.status ∙ full)) (c.in-Err.ensures.refused told))

pub returns-clause-log_full : goal.returns-clause-log_full
returns-clause-log_full g c = λ full told T recovers.
    let d = g.D.Disk in
    let old = c.args.disk.now in
    let runner = c.new-runner.result in
    let store = c.in-Ok.store in
    let start = keeps_at_start d.tells d runner store c.new-runner.ensures.running c.new-runner.ensures.store in
    let since = d.now old + 1 in
    let found = c.in-Ok.ensures.kept T told recovers in
    let out = c.run-status.ensures.out_of_blocks full since (d.image old) store.tables
    (start since (d.image old) store.tables c.from_disk.new.disk (found.keeps since (inr (omega arith)))) in
    inl (subst (λ (js : List Committed). HasNoBlock (d.image old) (d.image c.run-status.new.disk) js) (sym c.into_parts-journal.ensures.journal)
    (c.full_has_no_block.ensures since (d.image old) store.tables c.run-status.new.runner.journal.items c.run-status.new.runner.store c.run-status.new.disk out told))

pub returns-in-Err-clause-was_formatted : goal.returns-in-Err-clause-was_formatted
returns-in-Err-clause-was_formatted g c = λ opened told.
    c.status_of.ensures.was_formatted (g.D.Disk.image c.args.disk.now) (c.in-Err.ensures.was_formatted told) (sym (ap has_opened c.nothing.ensures.status) ∙ opened)

pub returns-clause-looked : goal.returns-clause-looked
returns-clause-looked g c = sessions_look c.run-status.result c.run-status.ensures.own

pub returns-clause-unchanged : goal.returns-clause-unchanged
returns-clause-unchanged g c = λ refused. cc (refused, sessions_accept c.run-status.result c.run-status.ensures.own)

pub returns-in-Err-clause-looked : goal.returns-in-Err-clause-looked
returns-in-Err-clause-looked g c = ap is_before_disk c.nothing.ensures.status ∙ c.status_of.ensures.looked

pub returns-in-Err-clause-unchanged : goal.returns-in-Err-clause-unchanged
returns-in-Err-clause-unchanged g c = λ refused.
    let is = c.status_of.ensures.refused (sym (ap is_of_refused_disk c.nothing.ensures.status) ∙ refused) in
    record { same = c.in-Err.ensures.untouched is; stop = c.in-Err.ensures.stop is }
