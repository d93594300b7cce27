use Rattle.std.proofs.Common.{sym, ap, subst, ◌∙◌, List}
use Rattle.ids_model.specs.declared.effect.Effect.{Effect}
use Rattle.ids_engine.specs.Survival.{Done, Survives}
use Rattle.ids_engine.specs.Stores.{KeepsStore}
use Rattle.ids_engine.specs.Journals.{done_of}
use Rattle.ids_server.specs.Running.{Running, effects_of}
use Rattle.ids_server.proofs.Answers.{always_err, on_ok_both, on_err}
use Rattle.ids_server.proofs.runner.Runner.commit_work.Goals as goal

pub returns-in-Some-clause-kept : goal.returns-in-Some-clause-kept
returns-in-Some-clause-kept g c = on_ok_both c.commit.result c.commit.ensures.ok c.commit.ensures.kept (λ stepped kept since base found keeps.
    let effects = ap effects_of c.in-Some.ensures.value in
    subst (λ (es : List Effect). KeepsStore g.D.Disk.tells g.D.Disk since base found (done_of c.commit.new.self.journal.items) es c.commit.new.self.store c.commit.new.disk)
    (sym (ap (λ (r : Running). effects_of r.inside) stepped ∙ ap effects_of c.in-Some.ensures.after))
    (kept since base found (subst (λ (es : List Effect). KeepsStore g.D.Disk.tells g.D.Disk since base found (done_of c.args.self.now.journal.items) es c.args.self.now.store c.args.disk.now) (sym effects) keeps)))

pub returns-in_err-give-in-None-clause-survives : goal.returns-in_err-give-in-None-clause-survives
returns-in_err-give-in-None-clause-survives g c = always_err c.from_residual.result (λ since base found keeps.
    subst (λ (ds : List Done). Survives g.D.Disk.now g.D.Disk.left_at since found ds c.args.disk.now) (sym (ap (λ (r : Running). done_of r.journal) c.in_err-give-in-None.ensures.err))
    (c.kept_survives.ensures since base found (done_of c.args.self.now.journal.items) (effects_of c.args.self.now.inside) c.args.self.now.store c.args.disk.now keeps))

pub returns-in-Some-clause-survives : goal.returns-in-Some-clause-survives
returns-in-Some-clause-survives g c = on_err c.commit.result c.commit.ensures.survives (λ survives since base found keeps.
    let effects = ap effects_of c.in-Some.ensures.value in
    survives since base found (subst (λ (es : List Effect). KeepsStore g.D.Disk.tells g.D.Disk since base found (done_of c.args.self.now.journal.items) es c.args.self.now.store c.args.disk.now) (sym effects) keeps))

pub returns-in-Some-clause-out_of_blocks : goal.returns-in-Some-clause-out_of_blocks
returns-in-Some-clause-out_of_blocks g c = λ full since base found keeps.
    let effects = ap effects_of c.in-Some.ensures.value in
    c.commit.ensures.out_of_blocks full since base found
    (subst (λ (es : List Effect). KeepsStore g.D.Disk.tells g.D.Disk since base found (done_of c.args.self.now.journal.items) es c.args.self.now.store c.args.disk.now) (sym effects) keeps)
