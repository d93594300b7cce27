use Rattle.std.proofs.Common.{◌≡◌, ◌≤◌, ap, sym, ◌∙◌, subst, arith, length, true, refl}
use Rattle.std.proofs.Math.ListN.{length-set}
use Rattle.table_space.specs.Kept.{Kept}
use Rattle.table_space.specs.Directory.{entries_at}
use Rattle.table_space.specs.Noted.{has_entry_for}
use Rattle.table_space.specs.Fronts.{IsFront}
use Rattle.ids_base.specs.RowIds.{row_number}
use Rattle.table_space.proofs.Fronts.{page-noted, page-kept, fronts-noted, row-stays, row-taken, row-filled-stays, noted-reserved}
use Rattle.table_space.proofs.FullPages.{rooms-noted}
use Rattle.table_space.proofs.Reserving.{reserves-set, reserves-stay, reserves-owned, none-marked}
use Rattle.table_space.proofs.ledger.Ledger.note.Goals as goal

pub taken_to-taken-requires-clause-taken : goal.taken_to-taken-requires-clause-taken
taken_to-taken-requires-clause-taken c =
    let found : has_entry_for (row_number c.args.row.page c.args.row.slot) c.args.filled (entries_at c.self.inside.directory c.args.table c.args.key.now) ≡ true =
    subst (λ (k : Kept). has_entry_for (row_number c.args.row.page c.args.row.slot) c.args.filled (entries_at k.directory c.args.table c.args.key.now) ≡ true) (sym c.self.view_is) c.requires.found in
    let known : IsFront (entries_at c.self.inside.directory) c.args.row.page c.front_of-front.result =
    subst (λ (k : Kept). IsFront (entries_at k.directory) c.args.row.page c.front_of-front.result) (sym c.self.view_is) c.front_of-front.ensures in
    page-kept c.args.row.page c.args.row.slot c.front_of-front.result (omega arith)
    (row-stays c.args.row.page c.args.row.slot c.number.result c.number.ensures c.args.tx c.args.filled c.note.ensures)
    known
    (row-taken c.args.row.page c.args.row.slot c.number.result c.number.ensures c.args.tx c.args.filled c.note.ensures found)

pub taken_to-taken-requires-clause-here : goal.taken_to-taken-requires-clause-here
taken_to-taken-requires-clause-here c =
    let found : has_entry_for (row_number c.args.row.page c.args.row.slot) c.args.filled (entries_at c.self.inside.directory c.args.table c.args.key.now) ≡ true =
    subst (λ (k : Kept). has_entry_for (row_number c.args.row.page c.args.row.slot) c.args.filled (entries_at k.directory c.args.table c.args.key.now) ≡ true) (sym c.self.view_is) c.requires.found in
    row-taken c.args.row.page c.args.row.slot c.number.result c.number.ensures c.args.tx c.args.filled c.note.ensures found

pub renew-requires-clause-fronts : goal.renew-requires-clause-fronts
renew-requires-clause-fronts c =
    let same : length c.self.inside.owners ≡ length c.args.self.now.owners = ap (λ (k : Kept). length k.owners) c.self.view_is in
    let within : c.args.row.page ≤ length c.self.inside.fronts.items = omega (arith, same, c.self.invariant.0, c.requires.last) in
    let size : length c.self.inside.owners ≡ length c.set.new.self = sym (length-set c.self.inside.owners _ _) ∙ ap length (sym c.set.ensures) in
    let known : IsFront (entries_at c.self.inside.directory) c.args.row.page c.front_of-front.result =
    subst (λ (k : Kept). IsFront (entries_at k.directory) c.args.row.page c.front_of-front.result) (sym c.self.view_is) c.front_of-front.ensures in
    rw c.deref.ensures.value (fronts-noted c.self.inside.fronts.items c.args.row.page c.args.row.slot _ c.requires.first within (omega arith)
    (row-stays c.args.row.page c.args.row.slot c.number.result c.number.ensures c.args.tx c.args.filled c.note.ensures)
    c.self.invariant.3
    (page-noted c.args.row.page c.args.row.slot c.front_of-front.result _ (omega arith)
    (row-stays c.args.row.page c.args.row.slot c.number.result c.number.ensures c.args.tx c.args.filled c.note.ensures)
    known c.taken_to-taken.ensures c.max-used.ensures))

-- a page without marks, one of whose slots is filled, gets none
pub invariant_of-self : goal.invariant_of-self
invariant_of-self c =
    let same : length c.self.inside.owners ≡ length c.args.self.now.owners = ap (λ (k : Kept). length k.owners) c.self.view_is in
    let within : c.args.row.page ≤ length c.self.inside.fronts.items = omega (arith, same, c.self.invariant.0, c.requires.last) in
    let size : length c.self.inside.owners ≡ length c.set.new.self = sym (length-set c.self.inside.owners _ _) ∙ ap length (sym c.set.ensures) in
    let known : IsFront (entries_at c.self.inside.directory) c.args.row.page c.front_of-front.result =
    subst (λ (k : Kept). IsFront (entries_at k.directory) c.args.row.page c.front_of-front.result) (sym c.self.view_is) c.front_of-front.ensures in
    let found : has_entry_for (row_number c.args.row.page c.args.row.slot) c.args.filled (entries_at c.self.inside.directory c.args.table c.args.key.now) ≡ true =
    subst (λ (k : Kept). has_entry_for (row_number c.args.row.page c.args.row.slot) c.args.filled (entries_at k.directory c.args.table c.args.key.now) ≡ true) (sym c.self.view_is) c.requires.found in
    let on : c.args.filled ≡ true = c.if-not-filled.false in
    let filled_stays = row-filled-stays c.args.row.page c.args.row.slot c.number.result c.number.ensures c.args.tx c.args.filled on c.note.ensures found in (
      length-set c.self.inside.fronts.items _ _ ∙ (c.self.invariant.0 ∙ size),
      c.mark.ensures.pages ∙ (c.self.invariant.1 ∙ size),
      c.self.invariant.2 ∙ size,
      fronts-noted c.self.inside.fronts.items c.args.row.page c.args.row.slot _ c.requires.first within (omega arith)
          (row-stays c.args.row.page c.args.row.slot c.number.result c.number.ensures c.args.tx c.args.filled c.note.ensures)
          c.self.invariant.3
          (page-noted c.args.row.page c.args.row.slot c.front_of-front.result _ (omega arith)
          (row-stays c.args.row.page c.args.row.slot c.number.result c.number.ensures c.args.tx c.args.filled c.note.ensures)
          known c.taken_to-taken.ensures c.max-used.ensures),
      rw c.set.ensures (rooms-noted c.self.inside.owners c.self.inside.rooms c.mark.new.self c.args.row.page c.args.row.slot c.args.table c.taken_to-taken.result c.requires.first (omega (arith, same, c.requires.last)) (omega arith)
          (row-stays c.args.row.page c.args.row.slot c.number.result c.number.ensures c.args.tx c.args.filled c.note.ensures)
          c.self.invariant.4 c.taken_to-taken.ensures
          c.mark.ensures.here c.mark.ensures.others),
      rw c.set.ensures (reserves-owned c.self.inside.owners c.self.inside.reserves c.args.row.page c.args.table c.requires.first (omega (arith, same, c.requires.last))
          (none-marked _ (sym c.has_any.ensures ∙ c.if-has_any.false))
          (reserves-stay c.self.inside.owners c.self.inside.reserves filled_stays
          (λ row. noted-reserved c.number.result true c.args.tx row (rw on at c.note.ensures) (λ tx. refl)) c.self.invariant.5)),
    )

-- any other one is marked anew
pub invariant_of-self-then-not-filled : goal.invariant_of-self-then-not-filled
invariant_of-self-then-not-filled c =
    let same : length c.self.inside.owners ≡ length c.args.self.now.owners = ap (λ (k : Kept). length k.owners) c.self.view_is in
    let within : c.args.row.page ≤ length c.self.inside.fronts.items = omega (arith, same, c.self.invariant.0, c.requires.last) in
    let size : length c.self.inside.owners ≡ length c.set.new.self = sym (length-set c.self.inside.owners _ _) ∙ ap length (sym c.set.ensures) in
    let known : IsFront (entries_at c.self.inside.directory) c.args.row.page c.front_of-front.result =
    subst (λ (k : Kept). IsFront (entries_at k.directory) c.args.row.page c.front_of-front.result) (sym c.self.view_is) c.front_of-front.ensures in (
      length-set c.self.inside.fronts.items _ _ ∙ (c.self.invariant.0 ∙ size),
      c.mark.ensures.pages ∙ (c.self.invariant.1 ∙ size),
      c.renew.ensures.reserve_pages ∙ (c.self.invariant.2 ∙ size),
      fronts-noted c.self.inside.fronts.items c.args.row.page c.args.row.slot _ c.requires.first within (omega arith)
          (row-stays c.args.row.page c.args.row.slot c.number.result c.number.ensures c.args.tx c.args.filled c.note.ensures)
          c.self.invariant.3
          (page-noted c.args.row.page c.args.row.slot c.front_of-front.result _ (omega arith)
          (row-stays c.args.row.page c.args.row.slot c.number.result c.number.ensures c.args.tx c.args.filled c.note.ensures)
          known c.taken_to-taken.ensures c.max-used.ensures),
      rw c.set.ensures (rooms-noted c.self.inside.owners c.self.inside.rooms c.mark.new.self c.args.row.page c.args.row.slot c.args.table c.taken_to-taken.result c.requires.first (omega (arith, same, c.requires.last)) (omega arith)
          (row-stays c.args.row.page c.args.row.slot c.number.result c.number.ensures c.args.tx c.args.filled c.note.ensures)
          c.self.invariant.4 c.taken_to-taken.ensures
          c.mark.ensures.here c.mark.ensures.others),
      rw c.set.ensures (reserves-set c.self.inside.owners c.self.inside.reserves c.renew.new.reserves c.args.row.page c.args.row.slot c.args.table c.requires.first (omega arith)
          (row-stays c.args.row.page c.args.row.slot c.number.result c.number.ensures c.args.tx c.args.filled c.note.ensures)
          (rw c.set.ensures at c.renew.ensures.here) c.renew.ensures.others c.self.invariant.5),
    )
