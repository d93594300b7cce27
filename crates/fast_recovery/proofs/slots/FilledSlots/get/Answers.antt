use Rattle.std.proofs.Common.{ap, sym, ◌∙◌, Some}
use Rattle.ids_model.specs.Slots.{Slots, slot_at}
use Rattle.fast_recovery.proofs.Made.{get-made}
use Rattle.fast_recovery.proofs.slots.FilledSlots.get.Goals as goal

pub returns-in-None : goal.returns-in-None
returns-in-None c = c.in-None.ensures.value ∙ sym (get-made c.self.inside.rows c.args.slot) ∙ ap (λ (m : Slots). slot_at m c.args.slot) c.self.view_is

pub returns-in-Some : goal.returns-in-Some
returns-in-Some c =
    ap Some c.bytes.ensures.bytes
    ∙ c.in-Some.ensures.value ∙ sym (get-made c.self.inside.rows c.args.slot) ∙ ap (λ (m : Slots). slot_at m c.args.slot) c.self.view_is
