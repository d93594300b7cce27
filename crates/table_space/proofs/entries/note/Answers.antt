use Rattle.std.proofs.Common.{sym, ◌∙◌}
use Rattle.table_space.proofs.Noted.{noted-row, noted-new, noted-nowhere}
use Rattle.table_space.proofs.entries.note.Goals as goal

pub returns-in-Some : goal.returns-in-Some
returns-in-Some c = record {
  noted = c.replace.ensures.set ∙ rw c.changed-entry.ensures (noted-row c.args.row c.args.filled c.args.tx c.args.entries.now c.in-Some.at (sym c.in-Some.ensures));
  was = rw c.changed-entry.ensures at c.replace.ensures.was;
}

pub returns-in-Some-without_row : goal.returns-in-Some-without_row
returns-in-Some-without_row c = record {
  noted =
      c.replace-in-Some-without_row.ensures.set
      ∙ rw c.changed-entry.ensures (noted-new c.args.row c.args.filled c.args.tx c.args.entries.now c.in-Some-without_row.at (sym c.with_row.ensures ∙ c.in-None.is) (sym c.in-Some-without_row.ensures));
  was = rw c.changed-entry.ensures at c.replace-in-Some-without_row.ensures.was;
}

pub unreachable-requires : goal.unreachable-requires
unreachable-requires c =
    noted-nowhere c.args.row c.args.filled c.args.tx c.args.entries.now (sym c.with_row.ensures ∙ c.in-None.is) (sym c.without_row.ensures ∙ c.in-None-without_row.is) c.requires
