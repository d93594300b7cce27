use Rattle.std.proofs.Common.{◌≡◌, ◌≤◌, ◌+◌, ◌-◌, length}
use Rattle.table_space.specs.Directory.{entries_at}
use Rattle.table_space.specs.Reserves.{AreReserves}
use Rattle.table_space.proofs.ledger.renew_pages.Given as goal

abbrev pub invariant-loop-page : goal.invariant-loop-page
invariant-loop-page l = record { some : 1 ≤ l.from; pages : l.reserves.pages ≡ length l.owners; reserves : AreReserves (entries_at l.directory) l.owners l.reserves }

abbrev pub decreases-loop-page : goal.decreases-loop-page
decreases-loop-page l = length l.owners + 1 - l.from
