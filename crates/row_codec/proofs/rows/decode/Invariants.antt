use Rattle.row_codec.specs.Rows.{row_of}
use Rattle.row_codec.proofs.Loops.{Reads}
use Rattle.row_codec.proofs.rows.decode.Given as goal

abbrev pub invariant-loop-column : goal.invariant-loop-column
invariant-loop-column l = Reads l.columns l.rest l.row l.column-index (row_of l.columns l.bytes)
