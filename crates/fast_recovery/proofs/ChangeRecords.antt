-- The records of changes of slots.
use Rattle.std.proofs.Common.{◌≡◌, ℕ, List, true, Option, Some, None, refl}
use Rattle.log_records.specs.Entries.{slot_entry}
use Rattle.fast_recovery.specs.Order.{open_by, stays}
use Rattle.fast_recovery.specs.Rising.{rises}

-- each of them rises
pub changes_rise : (last tx table row : ℕ) (before after : Option (List ℕ)) → rises last (slot_entry tx table row before after) ≡ true
changes_rise last tx table row None None = refl
changes_rise last tx table row None (Some after) = refl
changes_rise last tx table row (Some before) None = refl
changes_rise last tx table row (Some before) (Some after) = refl

-- and is of the open transaction
pub open_by_change : (o : Option ℕ) (tx table row : ℕ) (before after : Option (List ℕ)) → open_by o (slot_entry tx table row before after) ≡ stays o tx
open_by_change o tx table row None None = refl
open_by_change o tx table row None (Some after) = refl
open_by_change o tx table row (Some before) None = refl
open_by_change o tx table row (Some before) (Some after) = refl
