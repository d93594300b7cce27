use Rattle.std.proofs.Common.{◌≡◌, ℕ, Option, ap, sym, subst, ◌∙◌}
use Rattle.std.specs.Prelude.{MatchOption, option_copied}
use Rattle.std.specs.FinMap as map
use Rattle.ids_model.specs.declared.effect.Effect.{Effect}
use Rattle.ids_model.specs.Tables.{Tables}
use Rattle.fast_recovery.specs.BrokenRows.{IsBrokenRow}
use Rattle.fast_recovery.specs.RowsRead.{RowsRead, IsNewRow, HasNoNewRow}
use Rattle.fast_recovery.proofs.CatalogueRefuses.{row_unowned}
use Rattle.fast_recovery.proofs.RowsGrow.{first_passed, row_put}
use Rattle.fast_recovery.proofs.RowsRefuse.{row_unnamed, row_refused}
use Rattle.fast_recovery.proofs.rows.put_row.Goals as goal

abbrev number : ℕ × ℕ → ℕ
number o = o.0

pub returns-then-owner-eq1-clause-ok : goal.returns-then-owner-eq1-clause-ok
returns-then-owner-eq1-clause-ok c = λ slots rest are r.
    first_passed c.args.owners.now slots rest c.args.tables.now c.args.slot c.args.bytes.now r c.in-Some.owner
    (sym c.get.ensures ∙ c.in-Some.is) (sym (ap number c.owner.view_is) ∙ c.if-owner-eq1.true)

pub returns-in_default-clause-damaged : goal.returns-in_default-clause-damaged
returns-in_default-clause-damaged c = λ row e slots rest are r.
    let same : c.args.slot ≡ row = cc in
    subst (IsBrokenRow c.args.owners.now slots) same
    (row_unowned c.args.owners.now slots c.args.slot c.args.bytes.now r.rest_is.0 (sym c.get.ensures ∙ c.in_default.is))

pub returns-in_default-get-clause-damaged : goal.returns-in_default-get-clause-damaged
returns-in_default-get-clause-damaged c = λ row e slots rest are r.
    let same : c.args.slot ≡ row = cc in
    subst (IsBrokenRow c.args.owners.now slots) same (row_unnamed c.args.owners.now slots rest c.args.tables.now c.args.slot c.args.bytes.now r c.in-Some.owner
    (sym c.get.ensures ∙ c.in-Some.is) (λ one. c.if-owner-eq1.false (ap number c.owner.view_is ∙ one)) c.args.names.now are
    (ap (map.get c.args.names.now) (sym (ap number c.owner.view_is)) ∙ sym c.get-2.ensures ∙ ap option_copied c.in_default-get.is))

pub returns-in_default-2-clause-damaged : goal.returns-in_default-2-clause-damaged
returns-in_default-2-clause-damaged c = λ row e slots rest are r.
    let same : c.args.slot ≡ row = cc in
    let n = c.in-Some-get.name.now in
    let none : HasNoNewRow c.args.tables.now n c.args.bytes.now =
    subst (λ (o : Option Effect). MatchOption o (HasNoNewRow c.args.tables.now n c.args.bytes.now) (λ f. IsNewRow c.args.tables.now n c.args.bytes.now f)) c.in_default-2.is c.in_ok-effect.ensures in
    subst (IsBrokenRow c.args.owners.now slots) same (row_refused c.args.owners.now slots rest c.args.tables.now c.args.slot c.args.bytes.now r c.in-Some.owner
    (sym c.get.ensures ∙ c.in-Some.is) (λ one. c.if-owner-eq1.false (ap number c.owner.view_is ∙ one)) c.args.names.now are n
    (ap (map.get c.args.names.now) (sym (ap number c.owner.view_is)) ∙ sym c.in-Some-get.ensures) none)

pub returns-clause-ok : goal.returns-clause-ok
returns-clause-ok c = λ slots rest are r.
    let n = c.in-Some-get.name.now in
    let new : IsNewRow c.args.tables.now n c.args.bytes.now c.in-Some-2.effect =
    subst (λ (o : Option Effect). MatchOption o (HasNoNewRow c.args.tables.now n c.args.bytes.now) (λ f. IsNewRow c.args.tables.now n c.args.bytes.now f)) c.in-Some-2.is c.in_ok-effect.ensures in
    subst (λ (T : Tables). RowsRead c.args.owners.now slots rest T) (sym c.in_ok-apply.ensures.ok)
    (row_put c.args.owners.now slots rest c.args.tables.now c.args.slot c.args.bytes.now r c.in-Some.owner
    (sym c.get.ensures ∙ c.in-Some.is) (λ one. c.if-owner-eq1.false (ap number c.owner.view_is ∙ one)) c.args.names.now are n
    (ap (map.get c.args.names.now) (sym (ap number c.owner.view_is)) ∙ sym c.in-Some-get.ensures) c.in-Some-2.effect new)
