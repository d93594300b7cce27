use Rattle.std.proofs.Common.{sym, ap, subst, List}
use Rattle.ids_engine.specs.Survival.{Done, Survives}
use Rattle.ids_engine.specs.Journals.{done_of}
use Rattle.ids_server.specs.Running.{effects_of}
use Rattle.ids_server.proofs.Answers.{always_err}
use Rattle.ids_server.proofs.runner.Runner.step.Goals as goal

pub returns-then-len-clause-survives : goal.returns-then-len-clause-survives
returns-then-len-clause-survives g c = λ since base found keeps.
    c.kept_survives.ensures since base found (done_of c.args.self.now.journal.items) (effects_of c.args.self.now.inside) c.args.self.now.store c.args.disk.now keeps

pub returns-in_err-begin-in-Begin-clause-survives : goal.returns-in_err-begin-in-Begin-clause-survives
returns-in_err-begin-in-Begin-clause-survives g c = always_err c.from_residual.result (λ since base found keeps.
    subst (λ (ds : List Done). Survives g.D.Disk.now g.D.Disk.left_at since found ds c.args.disk.now) (sym (ap done_of c.begin.ensures.journal))
    (c.kept_survives.ensures since base found (done_of c.args.self.now.journal.items) (effects_of c.args.self.now.inside) c.args.self.now.store c.args.disk.now keeps))
