-- What a record says whose rows and named transactions lie elsewhere.
use Rattle.std.specs.Prelude.{ℕ, List, option_copied}
use Rattle.ids_base.specs.RowIds.{row_number}
use Rattle.log_records.specs.Entries as says
use Rattle.log_records.specs.Entries.{Entry, Named, slot_entry}
use Rattle.log_records.specs.declared.change.ChangeView.{ChangeView}
use Rattle.log_records.specs.declared.view.NamedView.{NamedView}
use Rattle.log_records.specs.declared.view.NamedView.TheVariants as named
use Rattle.log_records.specs.declared.view.RecordView.{RecordView}
use Rattle.log_records.specs.declared.view.RecordView.TheVariants.{Begin, Commit, Rollback, Change, Ckpoint}

-- the transactions that a checkpoint names
abbrev pub named_in : NamedView → List Named
named_in (named.Listed list) = list.now
named_in (named.Lying bytes) = bytes

-- a transaction's change of a slot
abbrev pub change_entry : ℕ → ChangeView → Entry
change_entry tx c = slot_entry tx c.table (row_number c.row.page c.row.slot) (option_copied c.before) (option_copied c.after)

abbrev pub view_entry : RecordView → Entry
view_entry (Begin tx session) = says.Begin tx session
view_entry (Commit tx) = says.Commit tx
view_entry (Rollback tx) = says.Rollback tx
view_entry (Change tx change) = change_entry tx change
view_entry (Ckpoint named) = says.Ckpoint (named_in named)
