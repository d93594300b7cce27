-- What a program's list of open transactions names.
use Rattle.std.specs.Prelude.{List, map}
use Rattle.ids_base.specs.declared.position.OpenTx.{OpenTx}
use Rattle.log_records.specs.Entries.{Named}

abbrev pub named_of : OpenTx → Named
named_of open_tx = record { tx = open_tx.tx; block = open_tx.begin.block; index = open_tx.begin.index }

abbrev pub all_named : List OpenTx → List Named
all_named list = map named_of list
