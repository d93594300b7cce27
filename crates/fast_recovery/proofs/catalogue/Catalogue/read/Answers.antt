use Rattle.std.proofs.Common.{◌≡◌, ℕ, List, ◌∷◌, ap, subst, sym, ◌∙◌}
use Rattle.std.specs.FinMap as map
use Rattle.std.proofs.lemmas.Result.{err_from_is_err_and}
use Rattle.ids_model.specs.Slots.{Bytes}
use Rattle.fast_recovery.specs.declared.catalogue.Catalogue.{Catalogue}
use Rattle.fast_recovery.specs.CatalogueRead.{CatalogueRead}
use Rattle.fast_recovery.proofs.CatalogueStarts.{catalogue_starts}
use Rattle.fast_recovery.proofs.catalogue.Catalogue.read.Goals as goal

pub loop-slot-init : goal.loop-slot-init
loop-slot-init c =
    let own = c.args.owners.now in
    let slots = c.args.slots.now in
    let all : c.into_iter-slot-iterator.result ≡ map.entries slots = c.into_iter-slot-iterator.ensures.into_iter_gives ∙ c.iter-slot-items.ensures in
    subst (λ (es : List (ℕ × Bytes)). CatalogueRead own slots es c.new-catalogue.result) (sym all)
    (subst (λ (x : Catalogue). CatalogueRead own slots (map.entries slots) x) (sym c.new-catalogue.ensures) (catalogue_starts own slots))

pub loop-slot-preserved : goal.loop-slot-preserved
loop-slot-preserved c =
    let next = c.next.new.self in
    let step : c.loop-slot.slot-iterator ≡ (c.in-Some.slot.now, c.bytes.result.now) ∷ next =
    c.in-Some.ensures.steps ∙ ap (λ (b : Bytes). (c.in-Some.slot.now, b) ∷ next) (sym c.bytes.ensures.bytes) in
    c.in_ok-note.ensures.ok c.args.slots.now next (subst (λ (es : List (ℕ × Bytes)). CatalogueRead c.args.owners.now c.args.slots.now es c.loop-slot.catalogue) step c.loop-slot.invariant)

pub returns-in_err-note-clause-damaged : goal.returns-in_err-note-clause-damaged
returns-in_err-note-clause-damaged c =
    let next = c.next.new.self in
    let step : c.loop-slot.slot-iterator ≡ (c.in-Some.slot.now, c.bytes.result.now) ∷ next =
    c.in-Some.ensures.steps ∙ ap (λ (b : Bytes). (c.in-Some.slot.now, b) ∷ next) (sym c.bytes.ensures.bytes) in
    let r = subst (λ (es : List (ℕ × Bytes)). CatalogueRead c.args.owners.now c.args.slots.now es c.loop-slot.catalogue) step c.loop-slot.invariant in
    let p = err_from_is_err_and c.from_residual.result c.from_residual.ensures.1 in
    rw (p.1, p.2) (λ row is. c.in_err-note.ensures.damaged row is c.args.slots.now next r)
