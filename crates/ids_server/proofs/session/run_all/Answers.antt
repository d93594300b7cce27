use Rattle.std.proofs.Common.{◌∙◌, ◌<◌, sym, ap, subst, ⊎_elim, arith, Err}
use Rattle.std.specs.Prelude.{Vec}
use Rattle.std.specs.declared.alloc.Global.{Global}
use Rattle.ids_model.specs.declared.journal.Committed.{Committed}
use Rattle.ids_model.specs.declared.journal.Given.{Given}
use Rattle.ids_model.specs.Text.{text}
use Rattle.sql_reader.specs.Lines.{text_in}
use Rattle.sql_reader.specs.Plans.{IsPlanOf}
use Rattle.ids_engine.specs.Journals.{done_of}
use Rattle.ids_server.specs.Moments.{HaveMoments}
use Rattle.ids_server.specs.Running.{effects_of}
use Rattle.ids_server.specs.Runners.{running_of}
use Rattle.ids_server.proofs.Carrying.{puts-then, puts-same}
use Rattle.ids_server.proofs.Texts.{text-push}
use Rattle.ids_server.proofs.Moments.{later as moments_later, steps_have_moments, failures_have_moments}
use Rattle.ids_server.proofs.Runs.{plans_each, next_there, count_more, all_answered, has_run, run_ends, ends_by}
use Rattle.ids_server.proofs.session.run_all.Goals as goal

pub loop-index-preserved : goal.loop-index-preserved
loop-index-preserved g c =
    let stepped = c.in-Ok.ensures.stepped in
    let printed = c.in-Ok.ensures.printed in
    let inv = c.loop-index.invariant in
    record {
      running = λ plans bytes is each.
          c.steps_keep_running.ensures plans c.args.runner.now.store.tables (g.D.Disk.now c.loop-index.disk) (g.D.Disk.now c.run_one.new.disk) (running_of c.loop-index.runner) (running_of c.run_one.new.runner) stepped.0
          (inv.running plans bytes is each) c.in-Ok.ensures.later
          (next_there c.a_statement_has_one_plan.ensures plans c.loop-index.runner.given.items _ c.loop-index.index stepped.0 (subst (λ n. c.loop-index.index < n) c.statements-index-end.ensures c.loop-index-test.true)
          stepped.1 inv.count (plans_each c.args.script.now bytes plans is each)) stepped.2;
      store = c.in-Ok.ensures.store;
      kept = λ since base found keeps. c.in-Ok.ensures.kept since base found (inv.kept since base found keeps);
      moments = steps_have_moments (g.D.Disk.now c.run_one.new.disk) (running_of c.loop-index.runner) (running_of c.run_one.new.runner) stepped.0
          (moments_later _ _ c.loop-index.runner.journal.items c.in-Ok.ensures.later inv.moments) stepped.2;
      count = count_more _ _ _ _ printed.1 inv.count;
      printed = puts-same _ _ _ _ (sym (ap text printed.1 ∙ text-push c.loop-index.runner.given.items printed.0)) (puts-then _ _ _ _ _ inv.printed printed.2);
      later = omega (arith, inv.later, c.in-Ok.ensures.later);
      counted = omega (arith, inv.counted, c.in-Ok.ensures.counted);
    }

pub returns-in-Err-clause-ran : goal.returns-in-Err-clause-ran
returns-in-Err-clause-ran g c = λ plans bytes is each.
    let inv = c.loop-index.invariant in
    has_run plans c.args.runner.now.store.tables _ _ _ (λ e. absurd (c.status_of.ensures.not_done e))
    (ends_by c.runs_end.ensures c.failures_end.ensures plans c.args.runner.now.store.tables (g.D.Disk.now c.loop-index.disk) (running_of c.loop-index.runner)
    (λ plan. IsPlanOf (text_in c.args.script.now 0 0 c.loop-index.index) plan) c.run_one.new.runner.journal.items c.run_one.new.runner.given.items (inv.running plans bytes is each)
    (λ plan at. next_there c.a_statement_has_one_plan.ensures plans c.loop-index.runner.given.items _ c.loop-index.index plan (subst (λ n. c.loop-index.index < n) c.statements-index-end.ensures c.loop-index-test.true)
    at inv.count (plans_each c.args.script.now bytes plans is each)) c.in-Err.ensures.failed c.in-Err.ensures.given)

pub returns-in-Err-clause-moments : goal.returns-in-Err-clause-moments
returns-in-Err-clause-moments g c =
    let moment = g.D.Disk.now c.run_one.new.disk in
    let before = moments_later _ moment c.loop-index.runner.journal.items c.in-Err.ensures.later c.loop-index.invariant.moments in
    ⊎_elim
    (λ same. subst (HaveMoments moment) (sym same) before)
    (λ f. failures_have_moments moment (running_of c.loop-index.runner) f.0 c.run_one.new.runner.journal.items before f.2)
    c.in-Err.ensures.failed

pub returns-in-Err-clause-survives : goal.returns-in-Err-clause-survives
returns-in-Err-clause-survives g c = λ since base found keeps. c.in-Err.ensures.survives since base found (c.loop-index.invariant.kept since base found keeps)

pub returns-then-has_failed-clause-ran : goal.returns-then-has_failed-clause-ran
returns-then-has_failed-clause-ran g c = λ plans bytes is each.
    let stepped = c.in-Ok.ensures.stepped in
    let inv = c.loop-index.invariant in
    has_run plans c.args.runner.now.store.tables _ _ _ (λ e. cc)
    (c.runs_end.ensures plans c.args.runner.now.store.tables (g.D.Disk.now c.run_one.new.disk) (running_of c.run_one.new.runner)
    (c.steps_keep_running.ensures plans c.args.runner.now.store.tables (g.D.Disk.now c.loop-index.disk) (g.D.Disk.now c.run_one.new.disk) (running_of c.loop-index.runner) (running_of c.run_one.new.runner) stepped.0
    (inv.running plans bytes is each) c.in-Ok.ensures.later
    (next_there c.a_statement_has_one_plan.ensures plans c.loop-index.runner.given.items _ c.loop-index.index stepped.0 (subst (λ n. c.loop-index.index < n) c.statements-index-end.ensures c.loop-index-test.true)
    stepped.1 inv.count (plans_each c.args.script.now bytes plans is each)) stepped.2))

pub returns-then-has_failed-clause-moments : goal.returns-then-has_failed-clause-moments
returns-then-has_failed-clause-moments g c =
    let stepped = c.in-Ok.ensures.stepped in
    steps_have_moments (g.D.Disk.now c.run_one.new.disk) (running_of c.loop-index.runner) (running_of c.run_one.new.runner) stepped.0
    (moments_later _ _ c.loop-index.runner.journal.items c.in-Ok.ensures.later c.loop-index.invariant.moments) stepped.2

pub returns-then-has_failed-clause-survives : goal.returns-then-has_failed-clause-survives
returns-then-has_failed-clause-survives g c = λ since base found keeps.
    c.kept_survives.ensures since base found (done_of c.run_one.new.runner.journal.items) (effects_of c.run_one.new.runner.inside) c.run_one.new.runner.store c.run_one.new.disk
    (c.in-Ok.ensures.kept since base found (c.loop-index.invariant.kept since base found keeps))

pub returns-then-has_failed-clause-printed : goal.returns-then-has_failed-clause-printed
returns-then-has_failed-clause-printed g c =
    let printed = c.in-Ok.ensures.printed in
    puts-same _ _ _ _ (sym (ap text printed.1 ∙ text-push c.loop-index.runner.given.items printed.0)) (puts-then _ _ _ _ _ c.loop-index.invariant.printed printed.2)

pub returns-in-Ok-end-clause-ran : goal.returns-in-Ok-end-clause-ran
returns-in-Ok-end-clause-ran g c = λ plans bytes is each.
    let running = c.loop-index.invariant.running plans bytes is each in
    run_ends c.runs_end.ensures plans c.args.runner.now.store.tables (g.D.Disk.now c.loop-index.disk) _ (running_of c.loop-index.runner) _ _ running
    (λ _. all_answered c.sessions_count.ensures c.all_answered.ensures bytes plans c.args.runner.now.store.tables (g.D.Disk.now c.loop-index.disk) (running_of c.loop-index.runner) _ each
    (plans_each c.args.script.now bytes plans is each) (omega (arith, c.loop-index.invariant.count, c.statements-index-end.ensures, c.loop-index-test.false)) running)
    (ap (λ (js : Vec Committed Global). js.items) c.end.ensures.journal) (ap (λ (gs : Vec Given Global). gs.items) c.end.ensures.given)

pub returns-in-Ok-end-clause-moments : goal.returns-in-Ok-end-clause-moments
returns-in-Ok-end-clause-moments g c =
    let moment = g.D.Disk.now c.end.new.disk in
    subst (HaveMoments moment) (sym (ap (λ (js : Vec Committed Global). js.items) c.end.ensures.journal))
    (moments_later _ moment c.loop-index.runner.journal.items c.end.ensures.later c.loop-index.invariant.moments)

pub returns-in-Ok-end-clause-survives : goal.returns-in-Ok-end-clause-survives
returns-in-Ok-end-clause-survives g c = λ since base found keeps.
    c.kept_survives.ensures since base found (done_of c.end.new.self.journal.items) (effects_of c.end.new.self.inside) c.end.new.self.store c.end.new.disk
    (c.in-Ok-end.ensures.kept since base found (c.loop-index.invariant.kept since base found keeps))

pub returns-in-Ok-end-clause-at_end : goal.returns-in-Ok-end-clause-at_end
returns-in-Ok-end-clause-at_end g c = λ done since base found keeps.
    c.kept_now.ensures since base found (done_of c.end.new.self.journal.items) (effects_of c.end.new.self.inside) c.end.new.self.store c.end.new.disk
    (c.in-Ok-end.ensures.kept since base found (c.loop-index.invariant.kept since base found keeps))

pub returns-in-Err-end-clause-ran : goal.returns-in-Err-end-clause-ran
returns-in-Err-end-clause-ran g c = λ plans bytes is each.
    run_ends c.runs_end.ensures plans c.args.runner.now.store.tables (g.D.Disk.now c.loop-index.disk) _ (running_of c.loop-index.runner) _ _ (c.loop-index.invariant.running plans bytes is each)
    (λ e. absurd (c.status_of-in-Err-end.ensures.not_done e))
    (ap (λ (js : Vec Committed Global). js.items) c.end.ensures.journal) (ap (λ (gs : Vec Given Global). gs.items) c.end.ensures.given)

pub returns-in-Err-end-clause-moments : goal.returns-in-Err-end-clause-moments
returns-in-Err-end-clause-moments g c =
    let moment = g.D.Disk.now c.end.new.disk in
    subst (HaveMoments moment) (sym (ap (λ (js : Vec Committed Global). js.items) c.end.ensures.journal))
    (moments_later _ moment c.loop-index.runner.journal.items c.end.ensures.later c.loop-index.invariant.moments)

pub returns-in-Err-end-clause-survives : goal.returns-in-Err-end-clause-survives
returns-in-Err-end-clause-survives g c = λ since base found keeps. c.in-Err-end.ensures.survives since base found (c.loop-index.invariant.kept since base found keeps)

pub returns-in-Err-clause-out_of_blocks : goal.returns-in-Err-clause-out_of_blocks
returns-in-Err-clause-out_of_blocks g c = λ full since base found keeps.
    c.in-Err.ensures.out_of_blocks (ap Err (c.status_of.ensures.log_full full)) since base found (c.loop-index.invariant.kept since base found keeps)

pub returns-in-Err-end-clause-out_of_blocks : goal.returns-in-Err-end-clause-out_of_blocks
returns-in-Err-end-clause-out_of_blocks g c = λ full since base found keeps.
    c.in-Err-end.ensures.out_of_blocks (ap Err (c.status_of-in-Err-end.ensures.log_full full)) since base found (c.loop-index.invariant.kept since base found keeps)
