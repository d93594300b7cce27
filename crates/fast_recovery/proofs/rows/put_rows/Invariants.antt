use Rattle.std.specs.FinMap as map
use Rattle.fast_recovery.specs.Reading.{AreNames}
use Rattle.fast_recovery.specs.RowsRead.{RowsRead}
use Rattle.fast_recovery.proofs.rows.put_rows.Given as goal

-- the rows that are left are still to be read
abbrev pub invariant-loop-slot : goal.invariant-loop-slot
invariant-loop-slot l = AreNames l.owners l.slots l.names → RowsRead l.owners l.slots (map.entries l.slots) l.initial.tables → RowsRead l.owners l.slots l.slot-iterator l.tables
