use Rattle.std.proofs.Common.{◌≡◌, ℕ, Some, None, refl, ap, sym, subst, ◌∙◌}
use Rattle.std.specs.Prelude.{option_map}
use Rattle.std.specs.FinMap as map
use Rattle.ids_base.specs.RowIds.{page_of}
use Rattle.row_codec.specs.Catalogue.{entry_of}
use Rattle.row_codec.specs.Views.{entry_in}
use Rattle.ids_model.specs.Slots.{own_at}
use Rattle.ids_model.specs.Stands.{catalogue}
use Rattle.ids_model.specs.Tables.{shape_of, shape_at}
use Rattle.fast_recovery.specs.declared.catalogue.Catalogue.{Catalogue}
use Rattle.fast_recovery.specs.BrokenRows.{IsBrokenRow}
use Rattle.fast_recovery.specs.CatalogueRead.{CatalogueRead}
use Rattle.fast_recovery.proofs.Options.{none-is}
use Rattle.fast_recovery.proofs.GoodShapes.{good_entry}
use Rattle.fast_recovery.proofs.CatalogueGrows.{row_passed, row_added}
use Rattle.fast_recovery.proofs.CatalogueRefuses.{row_unowned, row_unsaid, name_twice, number_twice}
use Rattle.fast_recovery.proofs.catalogue.Catalogue.note.Goals as goal
use Rattle.fast_recovery.proofs.catalogue.Catalogue.note.Goals.{then-has_name-via-then-has_name, then-has_name-via-else-has_name+then-has_number}

pub returns-then-not-is_catalogue-clause-ok : goal.returns-then-not-is_catalogue-clause-ok
returns-then-not-is_catalogue-clause-ok c = λ slots rest r.
    row_passed c.args.owners.now slots rest c.args.self.now c.args.slot c.args.bytes.now c.in-Some.owner
    (sym c.get.ensures ∙ c.in-Some.is) (λ is. let no = c.if-not-is_catalogue.ensures.1 is in cc) r

pub returns-in_default-clause-damaged : goal.returns-in_default-clause-damaged
returns-in_default-clause-damaged c = λ row e slots rest r.
    let same : c.args.slot ≡ row = cc in
    subst (IsBrokenRow c.args.owners.now slots) same
    (row_unowned c.args.owners.now slots c.args.slot c.args.bytes.now r.rest_is.0 (sym c.get.ensures ∙ c.in_default.is))

pub returns-in_default-2-clause-damaged : goal.returns-in_default-2-clause-damaged
returns-in_default-2-clause-damaged c = λ row e slots rest r.
    let same : c.args.slot ≡ row = cc in
    let owned : own_at c.args.owners.now (page_of c.args.slot) ≡ Some catalogue = sym c.get.ensures ∙ c.in-Some.is ∙ ap (λ (o : ℕ × ℕ). Some o) (c.if-not-is_catalogue.ensures.0 refl) in
    let none : entry_of c.args.bytes.now ≡ None = sym c.in_ok-row.ensures ∙ ap (option_map entry_in) c.in_default-2.is in
    subst (IsBrokenRow c.args.owners.now slots) same (row_unsaid c.args.owners.now slots c.args.slot c.args.bytes.now r.rest_is.0 owned none)

pub returns-then-has_name-clause-damaged : goal.returns-then-has_name-clause-damaged
returns-then-has_name-clause-damaged c = λ row e slots rest r.
    let same : c.args.slot ≡ row = cc in
    let own = c.args.owners.now in
    let entry = entry_in c.in-Some-2.row in
    let says : entry_of c.args.bytes.now ≡ Some entry = sym c.in_ok-row.ensures ∙ ap (option_map entry_in) c.in-Some-2.is in
    let owned : own_at own (page_of c.args.slot) ≡ Some catalogue = sym c.get.ensures ∙ c.in-Some.is ∙ ap (λ (o : ℕ × ℕ). Some o) (c.if-not-is_catalogue.ensures.0 refl) in
    subst (IsBrokenRow c.args.owners.now slots) same (elim c.then-has_name.branch [
      | then-has_name-via-then-has_name w ↦ name_twice own slots rest c.args.self.now c.args.slot c.args.bytes.now r entry says owned (sym c.has_name.ensures ∙ w.if-has_name.true)
      | then-has_name-via-else-has_name+then-has_number w ↦ number_twice own slots rest c.args.self.now c.args.slot c.args.bytes.now r entry says owned (sym w.has_number.ensures ∙ w.if-has_number.true)
    ])

pub add-requires-clause-shape : goal.add-requires-clause-shape
add-requires-clause-shape c = good_entry c.args.bytes.now (entry_in c.in-Some-2.row) (sym c.in_ok-row.ensures ∙ ap (option_map entry_in) c.in-Some-2.is)

pub returns-clause-ok : goal.returns-clause-ok
returns-clause-ok c = λ slots rest r.
    let own = c.args.owners.now in
    let was = c.args.self.now in
    let entry = entry_in c.in-Some-2.row in
    let says : entry_of c.args.bytes.now ≡ Some entry = sym c.in_ok-row.ensures ∙ ap (option_map entry_in) c.in-Some-2.is in
    let owned : own_at own (page_of c.args.slot) ≡ Some catalogue = sym c.get.ensures ∙ c.in-Some.is ∙ ap (λ (o : ℕ × ℕ). Some o) (c.if-not-is_catalogue.ensures.0 refl) in
    let absent : shape_at was.tables entry.name ≡ None = ap shape_of (none-is (map.get was.tables entry.name) (sym c.has_name.ensures ∙ c.if-has_name.false)) in
    let unused : map.get was.names entry.number ≡ None = none-is (map.get was.names entry.number) (sym c.has_number.ensures ∙ c.if-has_number.false) in
    subst (λ (x : Catalogue). CatalogueRead own slots rest x) (sym c.in_ok-add.ensures) (row_added own slots rest was c.args.slot c.args.bytes.now r entry says owned absent unused)
