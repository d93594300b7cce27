use Rattle.std.proofs.Common.{◌≤◌, ◌-◌, arith, inl, inr, length, slice_index_or}
use Rattle.std.proofs.lemmas.Bool.{cases_lt}
use Rattle.ids_base.specs.RowIds.{row_number}
use Rattle.table_space.specs.declared.front.Front.{Front}
use Rattle.table_space.proofs.Fronts.{unused-kept}
use Rattle.table_space.proofs.ledger.renew.Goals as goal

-- the slots above those that were used are not reserved
pub returns-clause-here : goal.returns-clause-here
returns-clause-here c = λ slot tx some small r.
    let within : c.args.page ≤ length c.args.fronts.now = omega (arith, c.requires.last, c.requires.front_pages) in
    let front : Front = slice_index_or c.args.fronts.now (c.args.page - 1) (record { taken = 0; used = 0 }) in
    elim (cases_lt front.used slot) [
      | inl above ↦ absurd (unused-kept (row_number c.args.page slot) tx ((c.requires.fronts c.args.page (record { taken = 0; used = 0 }) c.requires.first within).used slot above small) r)
      | inr low ↦ rw (c.put.ensures.here, ← c.get.ensures) (c.reserved_in-marks.ensures slot tx some low r)
    ]
