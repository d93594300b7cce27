use Rattle.ids_engine.specs.Journals.{done_of}
use Rattle.ids_engine.specs.declared.store.StoreFault.TheVariants as faults
use Rattle.ids_engine.proofs.OutOfBlocks.{same_fault}
use Rattle.ids_server.specs.Running.{effects_of}
use Rattle.ids_server.proofs.Answers.{always_err}
use Rattle.ids_server.proofs.runner.Runner.end.Goals as goal

pub returns-in_err-rollback-clause-survives : goal.returns-in_err-rollback-clause-survives
returns-in_err-rollback-clause-survives g c = always_err c.from_residual.result (λ since base found keeps.
    c.in_err-rollback.ensures.err since base found (done_of c.args.self.now.journal.items) (effects_of c.args.self.now.inside) keeps)

pub returns-clause-kept : goal.returns-clause-kept
returns-clause-kept g c = λ since base found keeps. c.in_ok-rollback.ensures.ok since base found (done_of c.args.self.now.journal.items) (effects_of c.args.self.now.inside) keeps

pub returns-in_err-rollback-clause-out_of_blocks : goal.returns-in_err-rollback-clause-out_of_blocks
returns-in_err-rollback-clause-out_of_blocks g c = λ full since base found keeps.
    c.in_err-rollback.ensures.out_of_blocks (same_fault c.from_residual.result c.in_err-rollback.field-0.0 faults.LogFull c.from_residual.ensures.1 full)
    since base found (done_of c.args.self.now.journal.items) (effects_of c.args.self.now.inside) keeps
