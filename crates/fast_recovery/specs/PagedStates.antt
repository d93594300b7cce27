-- States whose pages and rows can stand in a list of pages, also after a ROLLBACK.
use Rattle.std.specs.Prelude.{◌≡◌, ℕ, Some}
use Rattle.std.specs.List.{AllByRecursion}
use Rattle.ids_model.specs.Slots.{Bytes, Own}
use Rattle.ids_model.specs.Recovered.{SlotChange, State}
use Rattle.fast_recovery.specs.Paged.{IsPaged, IsPagedRow}

-- a row that a change took out can stand in its slot
abbrev pub IsPagedChange : Own → SlotChange → Type 0
IsPagedChange own c = (bytes : Bytes) → c.before ≡ Some bytes → IsPagedRow own c.slot bytes

-- pages and rows as they stand, and the rows that the standing changes took out
pub record IsPagedState (pages : ℕ) (s : State) : Type 0 where
  pub stands : IsPaged pages s.own s.slots
  pub taken_out : AllByRecursion (IsPagedChange s.own) s.standing
