use Rattle.std.proofs.Common.{sym, subst, [], arith}
use Rattle.fast_recovery.specs.declared.fault.OpenFault.TheVariants.{NotFormatted, Damaged}
use Rattle.sql_reader.specs.Lines.{InGrammar}
use Rattle.ids_server.specs.Printing.{PrinterCarries, PrinterIsCaused}
use Rattle.ids_server.proofs.Carrying.{starts-carrying, starts-caused, not-true}
use Rattle.ids_server.proofs.Told.{run_is_done, init_is_done, unread_is_long, unchecked_is_bad, good_is_not_bad}
use Rattle.ids_server.proofs.server.server.Goals as goal

pub returns-clause-front : goal.returns-clause-front
returns-clause-front g c = λ failed t.
    let start = subst (λ p. PrinterCarries g.K.Sink.tells g.K.Sink.taken p []) (sym c.new-printer.ensures) (starts-carrying g.K.Sink.tells g.K.Sink.taken c.args.out c.requires.fresh) in
    c.finish-out.ensures.front _ (c.answer-ran.ensures.printed.carries [] start) (c.answer-ran.ensures.failed.0 failed) t

pub returns-clause-behind : goal.returns-clause-behind
returns-clause-behind g c = λ sound t.
    let start = subst (λ p. PrinterCarries g.K.Sink.tells g.K.Sink.taken p []) (sym c.new-printer.ensures) (starts-carrying g.K.Sink.tells g.K.Sink.taken c.args.out c.requires.fresh) in
    c.finish-out.ensures.behind _ (c.answer-ran.ensures.printed.carries [] start) (not-true _ (λ e. sound (c.answer-ran.ensures.failed.1 e))) t

pub returns-clause-whole : goal.returns-clause-whole
returns-clause-whole g c = λ sound t.
    let start = subst (λ p. PrinterCarries g.K.Sink.tells g.K.Sink.taken p []) (sym c.new-printer.ensures) (starts-carrying g.K.Sink.tells g.K.Sink.taken c.args.out c.requires.fresh) in
    let caused = subst (λ p. PrinterIsCaused g.K.Sink.fault_count p (g.K.Sink.fault_count c.args.out)) (sym c.new-printer.ensures) (starts-caused g.K.Sink.fault_count c.args.out) in
    c.finish-out.ensures.whole _ _ (c.answer-ran.ensures.printed.carries [] start) (c.answer-ran.ensures.printed.caused _ caused) (not-true _ (λ e. sound (c.answer-ran.ensures.failed.1 e))) t

pub returns-clause-sink_fault : goal.returns-clause-sink_fault
returns-clause-sink_fault g c = λ failed.
    let caused = subst (λ p. PrinterIsCaused g.K.Sink.fault_count p (g.K.Sink.fault_count c.args.out)) (sym c.new-printer.ensures) (starts-caused g.K.Sink.fault_count c.args.out) in
    c.finish-out.ensures.cause _ (c.answer-ran.ensures.printed.caused _ caused) (c.answer-ran.ensures.failed.0 failed)

pub returns-clause-accepts : goal.returns-clause-accepts
returns-clause-accepts g c = λ run tells T recovers.
    let x = g.D.Disk.image c.args.disk in (
      λ is. c.recovered_is_accepted.ensures x T NotFormatted recovers (c.answer-ran.ensures.not_formatted is tells) tt,
      λ place is. c.recovered_is_accepted.ensures x T (Damaged place) recovers (c.answer-ran.ensures.damaged place is tells) tt,
    )

pub returns-clause-log_full : goal.returns-clause-log_full
returns-clause-log_full g c = λ full. (c.answer-ran.ensures.full_of_run full, c.answer-ran.ensures.log_full full)

pub returns-clause-complete : goal.returns-clause-complete
returns-clause-complete g c = λ run heard tells no_source no_disk no_sink short good T recovers.
    let x = g.D.Disk.image c.args.disk in
    let caused = subst (λ p. PrinterIsCaused g.K.Sink.fault_count p (g.K.Sink.fault_count c.args.out)) (sym c.new-printer.ensures) (starts-caused g.K.Sink.fault_count c.args.out) in
    run_is_done c.answer-ran.result.status (c.answer-ran.ensures.own_run run)
    (λ byte why is. good_is_not_bad (g.S.Source.left c.args.script.now) byte good (c.answer-ran.ensures.bad_script byte why is heard).0)
    (λ is. no_disk (c.answer-ran.ensures.disk_fault is))
    (λ is. no_sink (c.finish-out.ensures.cause _ (c.answer-ran.ensures.printed.caused _ caused) (c.answer-ran.ensures.failed.0 is)))
    (λ is. no_source (c.answer-ran.ensures.source_fault is))
    (λ is. absurd (omega (arith, short, c.answer-ran.ensures.too_long is heard)))
    (λ is. c.recovered_is_accepted.ensures x T NotFormatted recovers (c.answer-ran.ensures.not_formatted is tells) tt)
    (λ place is. c.recovered_is_accepted.ensures x T (Damaged place) recovers (c.answer-ran.ensures.damaged place is tells) tt)

pub returns-clause-complete_init : goal.returns-clause-complete_init
returns-clause-complete_init g c = λ init tells no_disk unformatted.
    init_is_done c.answer-ran.result.status (c.answer-ran.ensures.own_init init) (λ is. no_disk (c.answer-ran.ensures.disk_fault is)) (λ is. unformatted (c.answer-ran.ensures.already init is tells))

pub returns-clause-told_long : goal.returns-clause-told_long
returns-clause-told_long g c = λ run heard long.
    unread_is_long c.answer-ran.result.status (c.answer-ran.ensures.own_run run) (λ read. absurd (omega (arith, long, c.answer-ran.ensures.read run read heard)))

pub returns-clause-told_bad : goal.returns-clause-told_bad
returns-clause-told_bad g c = λ run heard short bad.
    let ran = c.answer-ran.ensures.ran run in
    unchecked_is_bad c.answer-ran.result.status (g.S.Source.left c.args.script.now) (c.answer-ran.ensures.own_run run) (λ is. absurd (omega (arith, short, c.answer-ran.ensures.too_long is heard)))
    (λ checked. bad (subst InGrammar (sym (ran.2 heard)) (ran.3.serves.ran checked)))
    (λ byte why is. c.answer-ran.ensures.bad_script byte why is heard)
