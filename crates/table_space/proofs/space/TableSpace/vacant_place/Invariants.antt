use Rattle.std.proofs.Common.{ℕ, ◌<◌, ◌≤◌, ◌-◌, ◌+◌, length}
use Rattle.table_space.specs.Places.{IsVacant}
use Rattle.table_space.specs.Space.{owners_of}
use Rattle.table_space.proofs.space.TableSpace.vacant_place.Given as goal

abbrev pub invariant-loop-page : goal.invariant-loop-page
invariant-loop-page l = record { some : 1 ≤ l.from; none : (p q : ℕ) → p < l.from → ¬ IsVacant l.self l.table l.slots l.tx p q }

abbrev pub decreases-loop-page : goal.decreases-loop-page
decreases-loop-page l = length (owners_of l.self) + 1 - l.from
