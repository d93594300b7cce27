use Rattle.std.proofs.Common.{length}
use Rattle.row_codec.proofs.Loops.{Writes}
use Rattle.row_codec.proofs.rows.put_values.Given as goal

abbrev pub invariant-loop-column : goal.invariant-loop-column
invariant-loop-column l = Writes l.initial.bytes.items l.bytes.items l.columns l.values (length l.yielded)
