use Rattle.std.proofs.Common.{◌≡◌, ◌∙◌, sym, ap, subst, ◌+◌, ◌≤◌, length, List, [], ◌∷◌, ◌++◌, drop, append_assoc, arith}
use Rattle.std.proofs.lemmas.List.{append-nil}
use Rattle.std.proofs.Math.ListN.{drop_of_length-le}
use Rattle.std.specs.List.{AllByRecursion}
use Rattle.ids_model.specs.declared.effect.Effect.{Effect}
use Rattle.ids_model.specs.Tables.{Tables, apply_all}
use Rattle.ids_model.specs.Fits.{Fits}
use Rattle.ids_engine.specs.Stores.{KeepsStore}
use Rattle.ids_engine.specs.declared.store.StoreFault.TheVariants as faults
use Rattle.ids_engine.proofs.OutOfBlocks.{same_fault}
use Rattle.ids_server.specs.Runners.{Goes}
use Rattle.ids_server.proofs.Answers.{always_err}
use Rattle.ids_server.proofs.Taking.{next_left, on_done}
use Rattle.ids_server.proofs.runner.Runner.take_rows.Goals as goal

pub change-requires-clause-fits : goal.change-requires-clause-fits
change-requires-clause-fits g c =
    let next = next_left c.args.gone.now c.loop-effect.effect-index c.effect-item.result c.loop-effect-test.true c.effect-item.is in
    (subst (Fits c.loop-effect.self.store.tables) next c.loop-effect.invariant.fits).0

pub change-requires-clause-one : goal.change-requires-clause-one
change-requires-clause-one g c =
    let next = next_left c.args.gone.now c.loop-effect.effect-index c.effect-item.result c.loop-effect-test.true c.effect-item.is in
    (subst (AllByRecursion Goes) next c.loop-effect.invariant.gone).0.0

pub loop-effect-preserved : goal.loop-effect-preserved
loop-effect-preserved g c =
    let inv = c.loop-effect.invariant in
    let store = c.loop-effect.self.store in
    let e : Effect = c.effect-item.result in
    let rest : List Effect = drop (c.loop-effect.effect-index + 1) c.args.gone.now in
    let next = next_left c.args.gone.now c.loop-effect.effect-index e c.loop-effect-test.true c.effect-item.is in
    let fits = subst (Fits store.tables) next inv.fits in
    let gone = subst (AllByRecursion Goes) next inv.gone in
    let is = c.in_ok-change.ensures.gone gone.0.1 in
    let tables = on_done _ _ is c.in_ok-change.ensures.tables in
    let noted = on_done _ _ is c.in_ok-change.ensures.noted in
    record {
      store = c.in_ok-change.ensures.sound;
      fits = subst (λ (T : Tables). Fits T rest) (sym tables) fits.1;
      gone = gone.1;
      tables = ap (λ (T : Tables). apply_all T rest) tables ∙ sym (ap (apply_all store.tables) next) ∙ inv.tables;
      noted = ap (λ (es : List Effect). es ++ rest) noted ∙ append_assoc store.undo (e ∷ []) rest ∙ sym (ap (λ (es : List Effect). store.undo ++ es) next) ∙ inv.noted;
      kept = λ since base found earlier so_far keeps.
          let k = inv.kept since base found earlier so_far keeps in
          (k.0 ++ e ∷ [], append_assoc k.0 (e ∷ []) rest ∙ sym (ap (λ (es : List Effect). k.0 ++ es) next) ∙ k.1, on_done _ _ is c.in_ok-change.ensures.done since base found earlier k.0 k.2);
      same = inv.same;
      later = omega (arith, inv.later, c.in_ok-change.ensures.later);
      counted = omega (arith, inv.counted, c.in_ok-change.ensures.counted);
    }

pub returns-in_err-change-clause-survives : goal.returns-in_err-change-clause-survives
returns-in_err-change-clause-survives g c = always_err c.from_residual.result (λ since base found earlier so_far keeps.
    let k = c.loop-effect.invariant.kept since base found earlier so_far keeps in
    c.in_err-change.ensures.err since base found earlier k.0 k.2)

pub returns-clause-kept : goal.returns-clause-kept
returns-clause-kept g c = λ since base found earlier so_far keeps.
    let k = c.loop-effect.invariant.kept since base found earlier so_far keeps in
    let le : length c.args.gone.now ≤ c.loop-effect.effect-index = omega (arith, c.loop-effect-test.false) in
    let none : drop c.loop-effect.effect-index c.args.gone.now ≡ [] = drop_of_length-le c.args.gone.now le in
    let all : k.0 ≡ so_far ++ c.args.gone.now = sym (append-nil k.0) ∙ sym (ap (λ (es : List Effect). k.0 ++ es) none) ∙ k.1 in
    subst (λ (es : List Effect). KeepsStore g.D.Disk.tells g.D.Disk since base found earlier es c.loop-effect.self.store c.loop-effect.disk) all k.2

pub returns-in_err-change-clause-out_of_blocks : goal.returns-in_err-change-clause-out_of_blocks
returns-in_err-change-clause-out_of_blocks g c = λ full since base found earlier so_far keeps.
    let k = c.loop-effect.invariant.kept since base found earlier so_far keeps in
    c.in_err-change.ensures.out_of_blocks (same_fault c.from_residual.result c.in_err-change.field-0.0 faults.LogFull c.from_residual.ensures.1 full) since base found earlier k.0 k.2
