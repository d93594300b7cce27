use Rattle.std.proofs.Common.{◌≡◌, ◌≤◌, ap, sym, ◌∙◌, subst, arith, length}
use Rattle.std.specs.Int.{bit_at}
use Rattle.table_space.specs.Kept.{Kept}
use Rattle.table_space.specs.Directory.{entries_at}
use Rattle.table_space.specs.PageMarks.{tx_mark}
use Rattle.table_space.specs.Reserves.{AreKept, reserved_at}
use Rattle.table_space.proofs.Reserving.{kept-blocked, unmarked-kept, mark-none}
use Rattle.table_space.proofs.ledger.Ledger.vacant_slot.Goals as goal
use Rattle.table_space.proofs.ledger.Ledger.vacant_slot.Goals.{then-has, else-has}

-- slots that are known to be taken are blocked, where none but filled ones are reserved for the transaction
pub loop-slot-init : goal.loop-slot-init
loop-slot-init c = elim c.if-has.branch [
  | then-has w ↦ λ slot some lt. absurd (omega (arith, some, lt, c.from-slot.ensures, w.known-is))
  | else-has w ↦
      let same : length c.self.inside.owners ≡ length c.args.self.now.owners = ap (λ (k : Kept). length k.owners) c.self.view_is in
      let within : c.args.page ≤ length c.self.inside.owners = omega (arith, same, c.requires.last) in
      let none : bit_at (reserved_at c.self.inside.reserves c.args.page).by_tx (tx_mark c.args.tx) ≡ 0 = mark-none _ (tx_mark c.args.tx) (sym c.has.ensures ∙ w.if-has.false) in
      let kept : AreKept (entries_at c.args.self.now.directory) c.args.page c.front_of-front.result.taken c.args.tx =
      subst (λ (k : Kept). AreKept (entries_at k.directory) c.args.page c.front_of-front.result.taken c.args.tx) c.self.view_is
      (unmarked-kept (reserved_at c.self.inside.reserves c.args.page) _ c.args.page c.front_of-front.result.taken c.args.tx none (c.self.invariant.5 c.args.page c.requires.first within)) in
      λ slot some lt. kept-blocked c.args.page c.front_of-front.result.taken c.args.tx c.front_of-front.ensures.taken kept slot some (omega (arith, lt, c.from-slot.ensures, w.known-is)) (omega (arith, lt, c.from-slot.ensures, w.known-is))
]
