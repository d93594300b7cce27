use Rattle.std.proofs.Common.{◌≡◌, Bool, true, false, refl, ap, ◌∙◌, inl, inr, ◌⊎◌}
use Rattle.table_space.specs.Slots.{may_be_left, slot_at}
use Rattle.table_space.specs.Directory.{entries_at}
use Rattle.table_space.specs.Fronts.{IsFilled}
use Rattle.table_space.specs.Reserves.{IsReserved, AreMarked}
use Rattle.table_space.proofs.Telling.{left-seen}
use Rattle.table_space.proofs.directory.Directory.with_row.Goals as goal

-- a slot that may be left for a transaction gives its marks, and any other one that it has reserved is filled
pub returns-clause-here : goal.returns-clause-here
returns-clause-here c = λ tx r. at tx r (may_be_left tx (slot_at c.args.self.now.slots c.args.row)) refl
  where
    at : (tx : _) → IsReserved (entries_at c.args.self.now) c.args.row tx → (b : Bool) → may_be_left tx (slot_at c.args.self.now.slots c.args.row) ≡ b → IsFilled (entries_at c.args.self.now) c.args.row ⊎ AreMarked c.with_slot.result c.args.owner tx
    at tx r true is = inr (c.with_slot.ensures.here tx (ap (may_be_left tx) c.at.ensures ∙ is))
    at tx r false is = inl (left-seen c.args.self.now.indexed c.args.row _ (c.args.self.now.counted c.args.row) tx is r)
