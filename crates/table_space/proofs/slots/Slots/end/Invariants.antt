use Rattle.std.proofs.Common.{◌≡◌, ℕ, take}
use Rattle.std.specs.List.{fold}
use Rattle.table_space.specs.Slots.{slot_at, ended}
use Rattle.table_space.proofs.slots.Slots.end.Given as goal

-- the entries so far no longer have their slots
abbrev pub invariant-loop-entry : goal.invariant-loop-entry
invariant-loop-entry l = (row : ℕ) → slot_at l.self row ≡ fold (ended row l.tx) (slot_at l.fn.self row) (take l.entry-index l.entries)
