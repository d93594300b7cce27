use Rattle.std.proofs.Common.{ap, ◌∙◌, None}
use Rattle.ids_model.specs.Slots.{Slots, set_slot}
use Rattle.fast_recovery.proofs.Made.{remove-made}
use Rattle.fast_recovery.proofs.slots.FilledSlots.empty.Goals as goal

pub returns : goal.returns
returns c =
    remove-made c.self.inside.rows c.remove.new.self c.args.slot c.remove.ensures.updates.0
    ∙ ap (λ (m : Slots). set_slot m c.args.slot None) c.self.view_is
