use Rattle.std.proofs.Common.{◌≡◌, ◌+◌, ◌≤◌, drop}
use Rattle.ids_base.specs.Shapes.{row_length, have_bytes}
use Rattle.row_codec.proofs.shapes.has_good_sizes.Given as goal

abbrev pub invariant-loop-column : goal.invariant-loop-column
invariant-loop-column l = record {
  few : l.length ≤ 800;
  added : l.length + row_length (drop l.column-index l.columns) ≡ row_length l.columns;
  same : have_bytes (drop l.column-index l.columns) ≡ have_bytes l.columns;
}
