-- The rows in a slot before and after a change.
use Rattle.std.specs.Prelude.{◌≡◌, ℕ, List, length, Option, Some, None}
use Rattle.std.proofs.Props.{props}
use Rattle.ids_base.specs.RowBytes.{HasRowLength}

-- a row is there before or after, and where both are, they have one length
abbrev pub HaveOneLength : Option (List ℕ) → Option (List ℕ) → Type 0
HaveOneLength None None = ⊥
HaveOneLength None (Some after) = Unit {0}
HaveOneLength (Some before) None = Unit {0}
HaveOneLength (Some before) (Some after) = length before ≡ length after

pub HaveOneLength-prop : (before after : Option (List ℕ)) → IsProp (HaveOneLength before after)
HaveOneLength-prop None None = hlevel props
HaveOneLength-prop None (Some after) = hlevel props
HaveOneLength-prop (Some before) None = hlevel props
HaveOneLength-prop (Some before) (Some after) = hlevel props

-- and each has the length of a row
abbrev pub AreSlotRows : Option (List ℕ) → Option (List ℕ) → Type 0
AreSlotRows None None = ⊥
AreSlotRows None (Some after) = HasRowLength after
AreSlotRows (Some before) None = HasRowLength before
AreSlotRows (Some before) (Some after) = HasRowLength before × HasRowLength after × (length before ≡ length after)

pub AreSlotRows-prop : (before after : Option (List ℕ)) → IsProp (AreSlotRows before after)
AreSlotRows-prop None None = hlevel props
AreSlotRows-prop None (Some after) = hlevel props
AreSlotRows-prop (Some before) None = hlevel props
AreSlotRows-prop (Some before) (Some after) = hlevel props
