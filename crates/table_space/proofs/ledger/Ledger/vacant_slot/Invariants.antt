use Rattle.table_space.specs.Directory.{entries_at}
use Rattle.table_space.specs.Seen.{AreBlocked}
use Rattle.table_space.proofs.ledger.Ledger.vacant_slot.Given as goal

abbrev pub invariant-loop-slot : goal.invariant-loop-slot
invariant-loop-slot l = AreBlocked (entries_at l.self.directory) l.page l.slot l.tx
