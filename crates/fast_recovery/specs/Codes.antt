-- How the parts of a replay are stored.
use Rattle.std.specs.Prelude.{ℕ, List, Option, refl}
use Rattle.std.specs.Coded.{Coded, code_by, coded×, coded_ℕ, coded_list, coded_option}
use Rattle.std.specs.FinMap as map
use Rattle.ids_model.specs.Slots.{Bytes, Own, Slots}
use Rattle.ids_model.specs.Recovered.{SlotChange, State}
use Rattle.fast_recovery.specs.Found.{Numbers}
use Rattle.fast_recovery.specs.Reading.{Names}

abbrev pub coded_own : Coded Own
coded_own = map.code coded_ℕ (coded× coded_ℕ coded_ℕ)

abbrev pub coded_slots : Coded Slots
coded_slots = map.code coded_ℕ (coded_list coded_ℕ)

abbrev pub coded_numbers : Coded Numbers
coded_numbers = map.code (coded_list coded_ℕ) coded_ℕ

abbrev pub coded_names : Coded Names
coded_names = map.code coded_ℕ (coded_list coded_ℕ)

abbrev pub coded_rows : Coded (Option Bytes × Option Bytes)
coded_rows = coded× (coded_option (coded_list coded_ℕ)) (coded_option (coded_list coded_ℕ))

-- a change as its transaction and slot, and its rows
abbrev pub coded_change : Coded SlotChange
coded_change =
    code_by ((ℕ × ℕ) × (Option Bytes × Option Bytes)) (coded× (coded× coded_ℕ coded_ℕ) coded_rows)
    (λ c. ((c.tx, c.slot), (c.before, c.after))) (λ p. record { tx = p.0.0; slot = p.0.1; before = p.1.0; after = p.1.1 }) (λ _. refl)

-- a state as its pages and slots, and its changes
abbrev pub coded_state : Coded State
coded_state =
    code_by ((Own × Slots) × List SlotChange) (coded× (coded× coded_own coded_slots) (coded_list coded_change))
    (λ s. ((s.own, s.slots), s.standing)) (λ p. record { own = p.0.0; slots = p.0.1; standing = p.1 }) (λ _. refl)
