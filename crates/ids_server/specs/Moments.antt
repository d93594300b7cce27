-- The moments of a journal, beside the disk's.
use Rattle.std.specs.Prelude.{◌≡◌, ◌≤◌, ℕ, false, List, length, Option, Some, None}
use Rattle.std.specs.List.{AllByRecursion}
use Rattle.ids_model.specs.declared.journal.Committed.{Committed}
use Rattle.ids_model.specs.Covered.{IsBy}

-- there is no moment, or it is m or an earlier one
abbrev pub IsUpTo : ℕ → Option ℕ → Type 0
IsUpTo m None = Unit {0}
IsUpTo m (Some at) = at ≤ m

-- what was acknowledged was flushed by then
abbrev pub IsFlushedBefore : Option ℕ → Option ℕ → Type 0
IsFlushedBefore flushed None = Unit {0}
IsFlushedBefore flushed (Some acked) = IsBy acked flushed

-- no moment of an entry is behind m; an entry with effects that was acknowledged under unbuffered logging was flushed no later
pub record HasMoments (m : ℕ) (c : Committed) : Type 0 where
  pub acked : IsUpTo m c.acked
  pub flushed : IsUpTo m c.flushed
  pub in_time : c.buffered ≡ false → 1 ≤ length c.effects → IsFlushedBefore c.flushed c.acked

abbrev pub HaveMoments : ℕ → List Committed → Type 0
HaveMoments m journal = AllByRecursion (HasMoments m) journal
