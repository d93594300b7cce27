use Rattle.std.proofs.Common.{◌≡◌, ◌+◌, drop}
use Rattle.ids_base.specs.Shapes.{row_length}
use Rattle.row_codec.proofs.shapes.row_length.Given as goal

abbrev pub invariant-loop-column : goal.invariant-loop-column
invariant-loop-column l = l.length + row_length (drop l.column-index l.columns) ≡ row_length l.columns
