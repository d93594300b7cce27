-- The record of a change of a slot.
use Rattle.std.proofs.Common.{◌≡◌, ℕ, List, Option, Some, None, refl}
use Rattle.log_records.specs.Entries.{slot_entry}
use Rattle.log_records.specs.Spelling.{tx_of}

-- it is of the transaction
pub tx_of_slot : (tx table row : ℕ) (before after : Option (List ℕ)) → tx_of (slot_entry tx table row before after) ≡ tx
tx_of_slot tx table row None None = refl
tx_of_slot tx table row None (Some after) = refl
tx_of_slot tx table row (Some before) None = refl
tx_of_slot tx table row (Some before) (Some after) = refl
