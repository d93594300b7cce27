-- One more change.
use Rattle.std.specs.Prelude.{◌∷◌}
use Rattle.ids_model.specs.Slots.{set_slot}
use Rattle.ids_model.specs.Recovered.{State, SlotChange}

-- the state after a change that stands
abbrev pub changed : State → SlotChange → State
changed s c = record { own = s.own; slots = set_slot s.slots c.slot c.after; standing = c ∷ s.standing }
