use Rattle.std.proofs.Common.{◌≡◌, ◌≤◌, ◌<◌, ◌+◌, ◌-◌, ℕ, length}
use Rattle.table_space.specs.Directory.{entries_at}
use Rattle.table_space.specs.Fronts.{AreFronts}
use Rattle.table_space.specs.Opened.{IsOpened}
use Rattle.table_space.specs.Rooms.{AreRooms}
use Rattle.table_space.proofs.ledger.open_pages.Given as goal

-- the pages so far are opened
abbrev pub invariant-loop-page : goal.invariant-loop-page
invariant-loop-page l = record {
  some : 1 ≤ l.from;
  front_pages : length l.fronts ≡ length l.owners;
  room_pages : l.rooms.pages ≡ length l.owners;
  fronts : AreFronts (entries_at l.directory) l.fronts;
  rooms : AreRooms (entries_at l.directory) l.owners l.rooms;
  opened : (p : ℕ) → 1 ≤ p → p < l.from → IsOpened (entries_at l.directory) l.owners l.fronts l.rooms l.tx p;
}

abbrev pub decreases-loop-page : goal.decreases-loop-page
decreases-loop-page l = length l.owners + 1 - l.from
