use Rattle.std.proofs.Common.{◌≡◌, ◌++◌, take, true}
use Rattle.std.specs.List.{list_all, flat_map}
use Rattle.ids_base.specs.declared.shape.Column.{Column}
use Rattle.ids_base.specs.Names.{is_name}
use Rattle.row_codec.specs.Catalogue.{column_bytes}
use Rattle.row_codec.proofs.catalogue.put_columns.Given as goal

abbrev pub invariant-loop-column : goal.invariant-loop-column
invariant-loop-column l = record {
  put : l.bytes.items ≡ l.initial.bytes.items ++ flat_map column_bytes (take l.column-index l.columns);
  names : list_all (λ (c : Column). is_name c.name) (take l.column-index l.columns) ≡ true;
}
