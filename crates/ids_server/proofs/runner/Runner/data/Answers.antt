use Rattle.std.proofs.Common.{sym, ap, subst, ◌∙◌, List, ◌++◌}
use Rattle.std.specs.Prelude.{Vec}
use Rattle.std.specs.declared.alloc.Global.{Global}
use Rattle.ids_model.specs.declared.effect.Effect.{Effect}
use Rattle.ids_model.specs.declared.journal.Committed.{Committed}
use Rattle.ids_engine.specs.Survival.{Done, Survives}
use Rattle.ids_engine.specs.Stores.{KeepsStore}
use Rattle.ids_engine.specs.Journals.{done_of}
use Rattle.ids_engine.specs.OutOfBlocks.{IsOutOfBlocks}
use Rattle.ids_engine.specs.declared.store.StoreFault.TheVariants as faults
use Rattle.ids_engine.proofs.OutOfBlocks.{same_fault}
use Rattle.ids_server.specs.Running.{Running, effects_of}
use Rattle.ids_server.proofs.Joining.{none_inside}
use Rattle.ids_server.proofs.Answers.{always_err, on_ok_both, on_err}
use Rattle.ids_server.proofs.runner.Runner.data.Goals as goal

pub returns-in_err-copy-clause-survives : goal.returns-in_err-copy-clause-survives
returns-in_err-copy-clause-survives g c = always_err c.from_residual-in_err-copy.result (λ since base found keeps.
    let kept = c.in_ok-reply.ensures.kept since base found (done_of c.args.self.now.journal.items) (effects_of c.args.self.now.inside) keeps in
    let same = ap (λ (r : Running). r.journal) c.in_ok-reply.ensures.running in
    subst (λ ds. Survives g.D.Disk.now g.D.Disk.left_at since found ds c.place.new.disk) (sym (ap done_of same))
    (c.kept_survives.ensures since base found (done_of c.args.self.now.journal.items) (effects_of c.args.self.now.inside ++ c.in_ok-reply.field-0.effects) c.place.new.self.store c.place.new.disk kept))

pub returns-in_err-join-clause-survives : goal.returns-in_err-join-clause-survives
returns-in_err-join-clause-survives g c = always_err c.from_residual-in_err-join.result (λ since base found keeps.
    let kept = c.in_ok-reply.ensures.kept since base found (done_of c.args.self.now.journal.items) (effects_of c.args.self.now.inside) keeps in
    let same = ap (λ (r : Running). r.journal) c.in_ok-reply.ensures.running in
    subst (λ ds. Survives g.D.Disk.now g.D.Disk.left_at since found ds c.place.new.disk) (sym (ap done_of (c.join.ensures.journal ∙ same)))
    (c.kept_survives.ensures since base found (done_of c.args.self.now.journal.items) (effects_of c.args.self.now.inside ++ c.in_ok-reply.field-0.effects) c.place.new.self.store c.place.new.disk kept))

pub returns-then-is_some-clause-kept : goal.returns-then-is_some-clause-kept
returns-then-is_some-clause-kept g c = λ since base found keeps.
    let kept = c.in_ok-reply.ensures.kept since base found (done_of c.args.self.now.journal.items) (effects_of c.args.self.now.inside) keeps in
    let running = c.in_ok-reply.ensures.running in
    let journal = c.join.ensures.journal ∙ ap (λ (r : Running). r.journal) running in
    let effects = c.in_ok-join.ensures.effects ∙ ap (λ (r : Running). effects_of r.inside ++ c.in_ok-reply.field-0.effects) running in
    subst (λ s. KeepsStore g.D.Disk.tells g.D.Disk since base found (done_of c.join.new.self.journal.items) (effects_of c.join.new.self.inside) s c.place.new.disk) (sym c.join.ensures.store)
    (subst (λ (es : List Effect). KeepsStore g.D.Disk.tells g.D.Disk since base found (done_of c.join.new.self.journal.items) es c.place.new.self.store c.place.new.disk) (sym effects)
    (subst (λ (ds : List Done). KeepsStore g.D.Disk.tells g.D.Disk since base found ds (effects_of c.args.self.now.inside ++ c.in_ok-reply.field-0.effects) c.place.new.self.store c.place.new.disk) (sym (ap done_of journal)) kept))

pub returns-in_err-alone-clause-survives : goal.returns-in_err-alone-clause-survives
returns-in_err-alone-clause-survives g c = always_err c.from_residual-in_err-alone.result (λ since base found keeps.
    let kept = c.in_ok-reply.ensures.kept since base found (done_of c.args.self.now.journal.items) (effects_of c.args.self.now.inside) keeps in
    let same = ap (λ (r : Running). r.journal) c.in_ok-reply.ensures.running in
    subst (λ ds. Survives g.D.Disk.now g.D.Disk.left_at since found ds c.place.new.disk) (sym (ap done_of same))
    (c.kept_survives.ensures since base found (done_of c.args.self.now.journal.items) (effects_of c.args.self.now.inside ++ c.in_ok-reply.field-0.effects) c.place.new.self.store c.place.new.disk kept))

pub returns-in_err-push-clause-survives : goal.returns-in_err-push-clause-survives
returns-in_err-push-clause-survives g c = always_err c.from_residual-in_err-push.result (λ since base found keeps.
    let kept = c.in_ok-reply.ensures.kept since base found (done_of c.args.self.now.journal.items) (effects_of c.args.self.now.inside) keeps in
    let same = ap (λ (r : Running). r.journal) c.in_ok-reply.ensures.running in
    subst (λ ds. Survives g.D.Disk.now g.D.Disk.left_at since found ds c.place.new.disk) (sym (ap done_of same))
    (c.kept_survives.ensures since base found (done_of c.args.self.now.journal.items) (effects_of c.args.self.now.inside ++ c.in_ok-reply.field-0.effects) c.place.new.self.store c.place.new.disk kept))

pub returns-clause-kept : goal.returns-clause-kept
returns-clause-kept g c = on_ok_both c.commit.result c.commit.ensures.ok c.commit.ensures.kept (λ stepped kept since base found keeps.
    let running = c.in_ok-reply.ensures.running in
    let none = none_inside c.place.new.self.inside (sym c.is_some.ensures ∙ c.if-is_some.false) in
    let before = sym (ap (λ (r : Running). effects_of r.inside) running) ∙ none in
    let placed = c.in_ok-reply.ensures.kept since base found (done_of c.args.self.now.journal.items) (effects_of c.args.self.now.inside) keeps in
    let first = subst (λ (es : List Effect). KeepsStore g.D.Disk.tells g.D.Disk since base found (done_of c.args.self.now.journal.items) (es ++ c.in_ok-reply.field-0.effects) c.place.new.self.store c.place.new.disk) before placed in
    let here = subst (λ (ds : List Done). KeepsStore g.D.Disk.tells g.D.Disk since base found ds c.in_ok-reply.field-0.effects c.place.new.self.store c.place.new.disk) (sym (ap done_of (ap (λ (r : Running). r.journal) running))) first in
    subst (λ (es : List Effect). KeepsStore g.D.Disk.tells g.D.Disk since base found (done_of c.commit.new.self.journal.items) es c.commit.new.self.store c.commit.new.disk)
    (sym (ap (λ (r : Running). effects_of r.inside) stepped ∙ none)) (kept since base found here))

pub returns-clause-survives : goal.returns-clause-survives
returns-clause-survives g c = on_err c.commit.result c.commit.ensures.survives (λ survives since base found keeps.
    let running = c.in_ok-reply.ensures.running in
    let none = none_inside c.place.new.self.inside (sym c.is_some.ensures ∙ c.if-is_some.false) in
    let before = sym (ap (λ (r : Running). effects_of r.inside) running) ∙ none in
    let placed = c.in_ok-reply.ensures.kept since base found (done_of c.args.self.now.journal.items) (effects_of c.args.self.now.inside) keeps in
    let first = subst (λ (es : List Effect). KeepsStore g.D.Disk.tells g.D.Disk since base found (done_of c.args.self.now.journal.items) (es ++ c.in_ok-reply.field-0.effects) c.place.new.self.store c.place.new.disk) before placed in
    let here = subst (λ (ds : List Done). KeepsStore g.D.Disk.tells g.D.Disk since base found ds c.in_ok-reply.field-0.effects c.place.new.self.store c.place.new.disk) (sym (ap done_of (ap (λ (r : Running). r.journal) running))) first in
    survives since base found here)

pub returns-in_err-reply-clause-survives : goal.returns-in_err-reply-clause-survives
returns-in_err-reply-clause-survives g c = always_err c.from_residual.result (λ since base found keeps.
    subst (λ (ds : List Done). Survives g.D.Disk.now g.D.Disk.left_at since found ds c.place.new.disk) (sym (ap (λ (js : Vec Committed Global). done_of js.items) c.in_err-reply.ensures.same.1))
    (c.in_err-reply.ensures.survives since base found (done_of c.args.self.now.journal.items) (effects_of c.args.self.now.inside) keeps))

pub returns-clause-out_of_blocks : goal.returns-clause-out_of_blocks
returns-clause-out_of_blocks g c = λ full since base found keeps.
    let running = c.in_ok-reply.ensures.running in
    let none = none_inside c.place.new.self.inside (sym c.is_some.ensures ∙ c.if-is_some.false) in
    let before = sym (ap (λ (r : Running). effects_of r.inside) running) ∙ none in
    let placed = c.in_ok-reply.ensures.kept since base found (done_of c.args.self.now.journal.items) (effects_of c.args.self.now.inside) keeps in
    let first = subst (λ (es : List Effect). KeepsStore g.D.Disk.tells g.D.Disk since base found (done_of c.args.self.now.journal.items) (es ++ c.in_ok-reply.field-0.effects) c.place.new.self.store c.place.new.disk) before placed in
    let here = subst (λ (ds : List Done). KeepsStore g.D.Disk.tells g.D.Disk since base found ds c.in_ok-reply.field-0.effects c.place.new.self.store c.place.new.disk) (sym (ap done_of (ap (λ (r : Running). r.journal) running))) first in
    c.commit.ensures.out_of_blocks full since base found here

pub returns-in_err-reply-clause-out_of_blocks : goal.returns-in_err-reply-clause-out_of_blocks
returns-in_err-reply-clause-out_of_blocks g c = λ full since base found keeps.
    let is = same_fault c.from_residual.result c.in_err-reply.field-0.0 faults.LogFull c.from_residual.ensures.1 full in
    subst (λ (ds : List Done). IsOutOfBlocks g.D.Disk.tells g.D.Disk since base found ds c.place.new.self.store c.place.new.disk) (sym (ap (λ (js : Vec Committed Global). done_of js.items) c.in_err-reply.ensures.same.1))
    (c.in_err-reply.ensures.out_of_blocks is since base found (done_of c.args.self.now.journal.items) (effects_of c.args.self.now.inside) keeps)
