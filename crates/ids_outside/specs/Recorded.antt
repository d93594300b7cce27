-- What noting a call adds to a record.
use Rattle.std.specs.Prelude.{◌≡◌, ℕ, List, [], ◌∷◌, ◌++◌, Vec}
use Rattle.std.specs.declared.alloc.Global.{Global}
use Rattle.ids_outside.specs.declared.record.Call.{Call}
use Rattle.ids_outside.specs.declared.record.Call.TheVariants.{Wrote}
use Rattle.ids_outside.specs.declared.record.Entry.{Entry}

abbrev pub Notes : ℕ → Call → List Entry → List Entry → Type 0
Notes moment call old new = new ≡ old ++ record { moment = moment; call = call } ∷ []

abbrev pub NotesWrite : ℕ → ℕ → ℕ → List ℕ → List Entry → List Entry → Type 0
NotesWrite moment chunk at bytes old new = (copy : Vec ℕ Global) × (copy.items ≡ bytes) × Notes moment (Wrote chunk at copy) old new
