use Rattle.std.proofs.Common.{sym, ap, subst, List}
use Rattle.ids_model.specs.declared.effect.Effect.{Effect}
use Rattle.ids_engine.specs.Survival.{Done, Survives}
use Rattle.ids_engine.specs.Stores.{KeepsStore}
use Rattle.ids_engine.specs.Journals.{done_of}
use Rattle.ids_engine.specs.declared.store.StoreFault.TheVariants as faults
use Rattle.ids_engine.proofs.OutOfBlocks.{same_fault}
use Rattle.ids_server.specs.Running.{Running, effects_of}
use Rattle.ids_server.proofs.Answers.{always_err}
use Rattle.ids_server.proofs.runner.Runner.rollback_work.Goals as goal

pub returns-in_err-give-clause-survives : goal.returns-in_err-give-clause-survives
returns-in_err-give-clause-survives g c = always_err c.from_residual.result (λ since base found keeps.
    subst (λ (ds : List Done). Survives g.D.Disk.now g.D.Disk.left_at since found ds c.args.disk.now) (sym (ap (λ (r : Running). done_of r.journal) c.in_err-give.ensures.err))
    (c.kept_survives.ensures since base found (done_of c.args.self.now.journal.items) (effects_of c.args.self.now.inside) c.args.self.now.store c.args.disk.now keeps))

pub returns-in_err-give-2-clause-survives : goal.returns-in_err-give-2-clause-survives
returns-in_err-give-2-clause-survives g c = always_err c.from_residual-in_err-give-2.result (λ since base found keeps.
    let kept = c.in_ok-end.ensures.kept since base found keeps in
    subst (λ (ds : List Done). Survives g.D.Disk.now g.D.Disk.left_at since found ds c.end.new.disk) (sym (ap (λ (r : Running). done_of r.journal) c.in_err-give-2.ensures.err))
    (c.kept_survives.ensures since base found (done_of c.end.new.self.journal.items) (effects_of c.end.new.self.inside) c.end.new.self.store c.end.new.disk kept))

pub returns-clause-kept : goal.returns-clause-kept
returns-clause-kept g c = λ since base found keeps.
    let kept = c.in_ok-end.ensures.kept since base found keeps in
    let given = c.in_ok-give-2.ensures.ok in
    let last = c.give-2.new.self in
    subst (λ s. KeepsStore g.D.Disk.tells g.D.Disk since base found (done_of last.journal.items) (effects_of last.inside) s c.end.new.disk) (sym c.give-2.ensures.store)
    (subst (λ (es : List Effect). KeepsStore g.D.Disk.tells g.D.Disk since base found (done_of last.journal.items) es c.end.new.self.store c.end.new.disk) (sym (ap (λ (r : Running). effects_of r.inside) given))
    (subst (λ (ds : List Done). KeepsStore g.D.Disk.tells g.D.Disk since base found ds (effects_of c.end.new.self.inside) c.end.new.self.store c.end.new.disk) (sym (ap (λ (r : Running). done_of r.journal) given)) kept))

pub returns-in_err-end-clause-out_of_blocks : goal.returns-in_err-end-clause-out_of_blocks
returns-in_err-end-clause-out_of_blocks g c = λ full since base found keeps.
    c.in_err-end.ensures.out_of_blocks (same_fault c.from_residual-in_err-end.result c.in_err-end.field-0.0 faults.LogFull c.from_residual-in_err-end.ensures.1 full) since base found keeps
