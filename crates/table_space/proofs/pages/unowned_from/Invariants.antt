use Rattle.std.proofs.Common.{◌≢◌, ℕ, ◌≤◌, ◌<◌, None}
use Rattle.table_space.specs.Owners.{owner_in}
use Rattle.table_space.proofs.pages.unowned_from.Given as goal

abbrev pub invariant-loop-page : goal.invariant-loop-page
invariant-loop-page l = (p : ℕ) → l.from ≤ p → p < l.page → owner_in l.owners p ≢ None
