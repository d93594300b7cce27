use Rattle.std.proofs.Common.{◌≡◌, ◌∙◌, ap, ◌+◌, ◌∷◌, [], length, length-append, arith}
use Rattle.ids_engine.specs.Journals.{done_of}
use Rattle.ids_engine.specs.declared.store.StoreFault.TheVariants as faults
use Rattle.ids_engine.proofs.OutOfBlocks.{same_fault}
use Rattle.ids_server.specs.Running.{effects_of}
use Rattle.ids_server.specs.Runners.{running_of}
use Rattle.ids_server.proofs.Answers.{always_err}
use Rattle.ids_server.proofs.Runs.{steps_give}
use Rattle.ids_server.proofs.session.run_one.Goals as goal

pub returns-clause-printed : goal.returns-clause-printed
returns-clause-printed g c =
    let more = steps_give (g.D.Disk.now c.step.new.disk) (running_of c.args.runner.now) (running_of c.step.new.self) c.in_ok-plan.plan c.in_ok-step.ensures.stepped in
    (more.0, more.1, c.put_last.ensures c.args.runner.now.given.items more.0 (c.given.ensures ∙ more.1))

pub returns-in_err-plan-clause-survives : goal.returns-in_err-plan-clause-survives
returns-in_err-plan-clause-survives g c = always_err c.from_residual.result (λ since base found keeps.
    c.kept_survives.ensures since base found (done_of c.args.runner.now.journal.items) (effects_of c.args.runner.now.inside) c.args.runner.now.store c.args.disk.now keeps)

pub put_last-requires : goal.put_last-requires
put_last-requires g c =
    let more = steps_give (g.D.Disk.now c.step.new.disk) (running_of c.args.runner.now) (running_of c.step.new.self) c.in_ok-plan.plan c.in_ok-step.ensures.stepped in
    let count : length c.given.result.now ≡ length c.args.runner.now.given.items + 1 = ap length (c.given.ensures ∙ more.1) ∙ length-append c.args.runner.now.given.items (more.0 ∷ []) in
    omega (arith, count)

pub returns-in_err-step-clause-out_of_blocks : goal.returns-in_err-step-clause-out_of_blocks
returns-in_err-step-clause-out_of_blocks g c = λ full since base found keeps.
    c.in_err-step.ensures.out_of_blocks (same_fault c.from_residual-in_err-step.result c.in_err-step.field-0.0 faults.LogFull c.from_residual-in_err-step.ensures.1 full) since base found keeps
