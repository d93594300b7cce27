use Rattle.std.proofs.Common.{rules, ◌≡◌, sym, ap, subst, List, []}
use Rattle.ids_model.specs.declared.effect.Effect.{Effect}
use Rattle.ids_engine.specs.Survival.{Done, Survives}
use Rattle.ids_engine.specs.Stores.{KeepsStore}
use Rattle.ids_engine.specs.Journals.{done_of}
use Rattle.ids_server.specs.Running.{Running}
use Rattle.ids_server.proofs.Answers.{always_err}
use Rattle.ids_server.proofs.Joining.{with_nothing}
use Rattle.ids_server.proofs.runner.Runner.commit.Goals as goal

pub returns-in_err-commit_nothing-clause-survives : goal.returns-in_err-commit_nothing-clause-survives
returns-in_err-commit_nothing-clause-survives g c = always_err c.from_residual.result (λ since base found keeps.
    subst (λ (ds : List Done). Survives g.D.Disk.now g.D.Disk.left_at since found ds c.args.disk.now) (sym (ap (λ (r : Running). done_of r.journal) c.in_err-commit_nothing.ensures.err))
    (c.kept_survives.ensures since base found (done_of c.args.self.now.journal.items) c.args.effects c.args.self.now.store c.args.disk.now keeps))

pub returns-in_ok-commit_nothing-clause-kept : goal.returns-in_ok-commit_nothing-clause-kept
returns-in_ok-commit_nothing-clause-kept g c = λ since base found keeps.
    let none : c.args.effects ≡ [] = search rules in
    let same = with_nothing c.transactions_join.ensures c.args.self.now.journal.items c.commit_nothing.new.self.journal.items c.args.done c.moment.result (ap (λ (r : Running). r.journal) c.in_ok-commit_nothing.ensures.ok) in
    subst (λ s. KeepsStore g.D.Disk.tells g.D.Disk since base found (done_of c.commit_nothing.new.self.journal.items) [] s c.args.disk.now) (sym c.commit_nothing.ensures.store)
    (subst (λ (ds : List Done). KeepsStore g.D.Disk.tells g.D.Disk since base found ds [] c.args.self.now.store c.args.disk.now) (sym same)
    (subst (λ (es : List Effect). KeepsStore g.D.Disk.tells g.D.Disk since base found (done_of c.args.self.now.journal.items) es c.args.self.now.store c.args.disk.now) none keeps))
