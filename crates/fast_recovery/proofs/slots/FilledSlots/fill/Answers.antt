use Rattle.std.proofs.Common.{ap, ◌∙◌, Some}
use Rattle.ids_model.specs.Slots.{Slots, set_slot}
use Rattle.fast_recovery.proofs.Made.{insert-made}
use Rattle.fast_recovery.proofs.slots.FilledSlots.fill.Goals as goal

pub returns : goal.returns
returns c =
    insert-made c.self.inside.rows c.insert.new.self c.args.slot c.args.row c.in_ok-insert.ensures.updates.0
    ∙ ap (λ (m : Slots). set_slot m c.args.slot (Some c.args.row)) c.self.view_is
