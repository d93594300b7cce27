use Rattle.std.proofs.Common.{◌≡◌, ◌+◌, ◌-◌, ◌*◌, ◌++◌, length}
use Rattle.row_codec.specs.Catalogue.{columns_of}
use Rattle.row_codec.proofs.catalogue.read_columns.Given as goal

abbrev pub invariant-loop : goal.invariant-loop
invariant-loop l = record {
  long : length l.rest + 21 * l.counter ≡ 336;
  read : l.columns ++ columns_of (l.count - l.counter) l.rest ≡ columns_of l.count l.bytes;
}
