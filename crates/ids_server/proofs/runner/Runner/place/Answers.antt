use Rattle.std.proofs.Common.{◌≡◌, inr, refl, sym, ap, subst, ◌∙◌, List, ◌++◌}
use Rattle.std.proofs.lemmas.List.{append-nil}
use Rattle.std.specs.Prelude.{slice_get}
use Rattle.std.specs.List.{AllByRecursion}
use Rattle.ids_model.specs.declared.effect.Effect.{Effect}
use Rattle.ids_model.specs.declared.outcome.Outcome.{Outcome}
use Rattle.ids_model.specs.Tables.{Tables}
use Rattle.ids_model.specs.Keyed.{AreKeyed}
use Rattle.ids_model.specs.Meaning.{one}
use Rattle.ids_model.proofs.OwnKeys.{standing-keyed}
use Rattle.ids_engine.specs.Stores.{KeepsStore}
use Rattle.ids_engine.specs.declared.store.StoreFault.TheVariants as faults
use Rattle.ids_engine.proofs.OutOfBlocks.{same_fault}
use Rattle.ids_server.specs.Runners.{Goes}
use Rattle.ids_server.proofs.Answers.{always_err}
use Rattle.ids_server.proofs.Outcomes.{rows_go, alone, changes_one, may_lack}
use Rattle.ids_server.proofs.Taking.{on_done, on_no_space, no_room}
use Rattle.ids_server.proofs.runner.Runner.place.Goals as goal

pub outcome_of-requires : goal.outcome_of-requires
outcome_of-requires g c = record {
  keyed = subst AreKeyed (sym c.tables.ensures)
      (standing-keyed c.args.self.now.store.rows.state.own c.args.self.now.store.rows.state.slots c.args.self.now.store.tables c.requires.store.keeps.memory.stands.stands);
}

pub take_rows-requires-clause-rows : goal.take_rows-requires-clause-rows
take_rows-requires-clause-rows g c =
    subst (AllByRecursion Goes) (sym c.as_slice.ensures) (rows_go _ _ c.in_ok-outcome.outcome c.in_ok-outcome.ensures.meaning (λ is. c.if-len-ne1.true (c.len.ensures ∙ is)))

pub change-requires-clause-one : goal.change-requires-clause-one
change-requires-clause-one g c =
    let only = alone c.in_ok-outcome.outcome.effects c.in-Some.effect.now (sym c.len.ensures ∙ c.if-len-ne1.false) (c.in-Some.ensures.value ∙ ap (λ (es : List Effect). slice_get es 0) c.as_slice-2.ensures) in
    changes_one _ _ c.in_ok-outcome.outcome c.in-Some.effect.now c.in_ok-outcome.ensures.meaning only

pub returns-then-len-ne1-clause-kept : goal.returns-then-len-ne1-clause-kept
returns-then-len-ne1-clause-kept g c = λ since base found earlier so_far keeps.
    subst (λ (es : List Effect). KeepsStore g.D.Disk.tells g.D.Disk since base found earlier (so_far ++ es) c.take_rows.new.self.store c.take_rows.new.disk) c.as_slice.ensures
    (c.in_ok-take_rows.ensures.kept since base found earlier so_far keeps)

pub returns-in-Done-clause-kept : goal.returns-in-Done-clause-kept
returns-in-Done-clause-kept g c = λ since base found earlier so_far keeps.
    let only = alone c.in_ok-outcome.outcome.effects c.in-Some.effect.now (sym c.len.ensures ∙ c.if-len-ne1.false) (c.in-Some.ensures.value ∙ ap (λ (es : List Effect). slice_get es 0) c.as_slice-2.ensures) in
    subst (λ (es : List Effect). KeepsStore g.D.Disk.tells g.D.Disk since base found earlier (so_far ++ es) c.change.new.self c.change.new.disk) (sym only)
    (on_done _ _ c.in-Done.is c.in_ok-change.ensures.done since base found earlier so_far keeps)

pub returns-in-NoSpace-clause-outcome : goal.returns-in-NoSpace-clause-outcome
returns-in-NoSpace-clause-outcome g c =
    let only = alone c.in_ok-outcome.outcome.effects c.in-Some.effect.now (sym c.len.ensures ∙ c.if-len-ne1.false) (c.in-Some.ensures.value ∙ ap (λ (es : List Effect). slice_get es 0) c.as_slice-2.ensures) in
    inr (
      refl,
      may_lack _ _ c.in_ok-outcome.outcome c.in-Some.effect.now c.in-NoSpace.rows c.in-NoSpace.pages c.in_ok-outcome.ensures.meaning only
          (λ takes. sym c.in-NoSpace.is ∙ c.in_ok-change.ensures.gone takes),
      c.new.ensures,
    )

pub returns-in-NoSpace-clause-full : goal.returns-in-NoSpace-clause-full
returns-in-NoSpace-clause-full g c = λ rows pages is.
    let only = alone c.in_ok-outcome.outcome.effects c.in-Some.effect.now (sym c.len.ensures ∙ c.if-len-ne1.false) (c.in-Some.ensures.value ∙ ap (λ (es : List Effect). slice_get es 0) c.as_slice-2.ensures) in
    let meant : c.in_ok-outcome.outcome ≡ one c.args.self.now.store.tables c.args.statement.now =
    c.in_ok-outcome.ensures.meaning ∙ ap (λ (T : Tables). one T c.args.statement.now) c.tables.ensures in
    no_room c.args.self.now.store c.args.statement.now c.in-Some.effect.now c.in-NoSpace.rows c.in-NoSpace.pages rows pages is
    (sym (ap (λ (o : Outcome). o.effects) meant) ∙ only)
    (λ owner owned.
    let full = on_no_space _ _ c.in-NoSpace.rows c.in-NoSpace.pages c.in-NoSpace.is c.in_ok-change.ensures.full owner owned in
    record { none = full.none; slots = cc (full.all); owned = cc (full.all) })

pub returns-in-NoSpace-clause-kept : goal.returns-in-NoSpace-clause-kept
returns-in-NoSpace-clause-kept g c = λ since base found earlier so_far keeps.
    let same = on_no_space _ _ c.in-NoSpace.rows c.in-NoSpace.pages c.in-NoSpace.is c.in_ok-change.ensures.no_space in
    subst (λ (es : List Effect). KeepsStore g.D.Disk.tells g.D.Disk since base found earlier es c.change.new.self c.change.new.disk) (sym (ap (λ (es : List Effect). so_far ++ es) c.new.ensures ∙ append-nil so_far))
    (subst (λ s. KeepsStore g.D.Disk.tells g.D.Disk since base found earlier so_far s c.change.new.disk) (sym same.0) (subst (λ d. KeepsStore g.D.Disk.tells g.D.Disk since base found earlier so_far c.args.self.now.store d) (sym same.1) keeps))

pub returns-in_err-outcome-clause-survives : goal.returns-in_err-outcome-clause-survives
returns-in_err-outcome-clause-survives g c = always_err c.from_residual.result (λ since base found earlier so_far keeps.
    c.kept_survives.ensures since base found earlier so_far c.args.self.now.store c.args.disk.now keeps)

pub returns-in_err-take_rows-clause-out_of_blocks : goal.returns-in_err-take_rows-clause-out_of_blocks
returns-in_err-take_rows-clause-out_of_blocks g c = λ full since base found earlier so_far keeps.
    c.in_err-take_rows.ensures.out_of_blocks (same_fault c.from_residual-in_err-take_rows.result c.in_err-take_rows.field-0.0 faults.LogFull c.from_residual-in_err-take_rows.ensures.1 full)
    since base found earlier so_far keeps

pub returns-in_err-change-clause-out_of_blocks : goal.returns-in_err-change-clause-out_of_blocks
returns-in_err-change-clause-out_of_blocks g c = λ full since base found earlier so_far keeps.
    c.in_err-change.ensures.out_of_blocks (same_fault c.from_residual-in_err-change.result c.in_err-change.field-0.0 faults.LogFull c.from_residual-in_err-change.ensures.1 full)
    since base found earlier so_far keeps
