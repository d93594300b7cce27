-- What the program's records say.
use Rattle.ids_base.specs.RowIds.{row_number}
use Rattle.log_records.specs.Entries as says
use Rattle.log_records.specs.Entries.{Entry, Named}
use Rattle.log_records.specs.declared.record.Record.{Record}
use Rattle.log_records.specs.declared.record.Record.TheVariants.{Begin, Commit, Rollback, HInsert, HDelete, HUpdate, Ckpoint}

abbrev pub entry_of : Record → Entry
entry_of (Begin tx session) = says.Begin tx session
entry_of (Commit tx) = says.Commit tx
entry_of (Rollback tx) = says.Rollback tx
entry_of (HInsert tx table row after) = says.HInsert tx table (row_number row.page row.slot) after
entry_of (HDelete tx table row before) = says.HDelete tx table (row_number row.page row.slot) before
entry_of (HUpdate tx table row rows) = says.HUpdate tx table (row_number row.page row.slot) rows.before rows.after
entry_of (Ckpoint named) = says.Ckpoint named
