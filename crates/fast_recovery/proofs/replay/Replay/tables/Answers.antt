use Rattle.std.proofs.Common.{ℕ, subst, sym}
use Rattle.std.proofs.lemmas.Result.{err_from_is_err_and}
use Rattle.fast_recovery.specs.BrokenRows.{IsBrokenRow}
use Rattle.fast_recovery.specs.Found.{IsGreatest}
use Rattle.fast_recovery.proofs.CatalogueWhole.{good_shapes}
use Rattle.fast_recovery.proofs.TablesFound.{still_broken, broken_by_pages, broken_by_rows, tables_stand, are_numbered, is_greatest}
use Rattle.fast_recovery.proofs.replay.Replay.tables.Goals as goal

pub check_pages-requires : goal.check_pages-requires
check_pages-requires c = good_shapes c.owners-owners.result.now c.slots-slots.result.now c.in_ok-catalogue.catalogue c.in_ok-catalogue.ensures.ok

pub returns-in_err-catalogue-clause-damaged : goal.returns-in_err-catalogue-clause-damaged
returns-in_err-catalogue-clause-damaged c =
    let p = err_from_is_err_and c.from_residual.result c.from_residual.ensures.1 in
    rw (p.1, p.2) (λ row is.
    still_broken c.owners-owners.result.now c.args.self.now.own c.slots-slots.result.now c.args.self.now.slots c.owners-owners.ensures c.slots-slots.ensures
    row (c.in_err-catalogue.ensures.damaged row is))

pub returns-in_err-check_pages-clause-damaged : goal.returns-in_err-check_pages-clause-damaged
returns-in_err-check_pages-clause-damaged c =
    let p = err_from_is_err_and c.from_residual-in_err-check_pages.result c.from_residual-in_err-check_pages.ensures.1 in
    rw (p.1, p.2) (λ row is.
    let page = c.in_err-check_pages.ensures.damaged row is in
    subst (IsBrokenRow c.args.self.now.own c.args.self.now.slots) (sym page.4) (broken_by_pages c.owners-owners.result.now c.args.self.now.own c.slots-slots.result.now c.args.self.now.slots c.owners-owners.ensures c.slots-slots.ensures
    c.in_ok-catalogue.catalogue c.in_ok-catalogue.ensures.ok page.0 page.1 page.2 page.3))

pub returns-in_err-put_rows-clause-damaged : goal.returns-in_err-put_rows-clause-damaged
returns-in_err-put_rows-clause-damaged c =
    let p = err_from_is_err_and c.from_residual-in_err-put_rows.result c.from_residual-in_err-put_rows.ensures.1 in
    rw (p.1, p.2) (λ row is.
    broken_by_rows c.owners-owners.result.now c.args.self.now.own c.slots-slots.result.now c.args.self.now.slots c.owners-owners.ensures c.slots-slots.ensures
    c.in_ok-catalogue.catalogue c.in_ok-catalogue.ensures.ok c.in_ok-check_pages.ensures.ok row (c.in_err-put_rows.ensures.damaged row is))

pub returns-clause-stands : goal.returns-clause-stands
returns-clause-stands c =
    tables_stand c.owners-owners.result.now c.args.self.now.own c.slots-slots.result.now c.args.self.now.slots c.owners-owners.ensures c.slots-slots.ensures
    c.in_ok-catalogue.catalogue c.in_ok-catalogue.ensures.ok c.in_ok-check_pages.ensures.ok c.put_rows.new.tables c.in_ok-put_rows.ensures.ok

pub returns-clause-numbers : goal.returns-clause-numbers
returns-clause-numbers c =
    let it = tables_stand c.owners-owners.result.now c.args.self.now.own c.slots-slots.result.now c.args.self.now.slots c.owners-owners.ensures c.slots-slots.ensures
    c.in_ok-catalogue.catalogue c.in_ok-catalogue.ensures.ok c.in_ok-check_pages.ensures.ok c.put_rows.new.tables c.in_ok-put_rows.ensures.ok in
    are_numbered c.owners-owners.result.now c.args.self.now.own c.slots-slots.result.now c.args.self.now.slots c.owners-owners.ensures c.slots-slots.ensures
    c.in_ok-catalogue.catalogue c.in_ok-catalogue.ensures.ok c.put_rows.new.tables it.stands

pub returns-clause-greatest : goal.returns-clause-greatest
returns-clause-greatest c =
    subst (λ (n : ℕ). IsGreatest c.args.self.now.own c.args.self.now.slots n) (sym c.max-greatest.ensures)
    (is_greatest c.owners-owners.result.now c.args.self.now.own c.slots-slots.result.now c.args.self.now.slots c.owners-owners.ensures c.slots-slots.ensures
    c.in_ok-catalogue.catalogue c.in_ok-catalogue.ensures.ok c.greatest_table.result c.greatest_table.ensures.least c.greatest_table.ensures.owners)
