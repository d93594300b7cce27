use Rattle.std.proofs.Common.{◌≡◌, ℕ, List, ◌∷◌, ap, subst, sym, ◌∙◌}
use Rattle.std.proofs.lemmas.Result.{err_from_is_err_and}
use Rattle.ids_model.specs.Slots.{Bytes}
use Rattle.fast_recovery.specs.RowsRead.{RowsRead}
use Rattle.fast_recovery.proofs.rows.put_rows.Goals as goal

pub loop-slot-preserved : goal.loop-slot-preserved
loop-slot-preserved c = λ are start.
    let next = c.next.new.self in
    let step : c.loop-slot.slot-iterator ≡ (c.in-Some.slot.now, c.bytes.result.now) ∷ next =
    c.in-Some.ensures.steps ∙ ap (λ (b : Bytes). (c.in-Some.slot.now, b) ∷ next) (sym c.bytes.ensures.bytes) in
    c.in_ok-put_row.ensures.ok c.args.slots.now next are
    (subst (λ (es : List (ℕ × Bytes)). RowsRead c.args.owners.now c.args.slots.now es c.loop-slot.tables) step (c.loop-slot.invariant are start))

pub returns-in_err-put_row-clause-damaged : goal.returns-in_err-put_row-clause-damaged
returns-in_err-put_row-clause-damaged c =
    let next = c.next.new.self in
    let step : c.loop-slot.slot-iterator ≡ (c.in-Some.slot.now, c.bytes.result.now) ∷ next =
    c.in-Some.ensures.steps ∙ ap (λ (b : Bytes). (c.in-Some.slot.now, b) ∷ next) (sym c.bytes.ensures.bytes) in
    let p = err_from_is_err_and c.from_residual.result c.from_residual.ensures.1 in
    rw (p.1, p.2) (λ row is are start.
    c.in_err-put_row.ensures.damaged row is c.args.slots.now next are
    (subst (λ (es : List (ℕ × Bytes)). RowsRead c.args.owners.now c.args.slots.now es c.loop-slot.tables) step (c.loop-slot.invariant are start)))

pub returns-clause-ok : goal.returns-clause-ok
returns-clause-ok c = λ are start.
    subst (λ (es : List (ℕ × Bytes)). RowsRead c.args.owners.now c.args.slots.now es c.loop-slot.tables) c.in-None.ensures.steps.0 (c.loop-slot.invariant are start)
