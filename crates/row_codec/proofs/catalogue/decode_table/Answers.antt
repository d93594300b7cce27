use Rattle.std.proofs.Common.{◌≡◌, ◌∙◌, sym, ap, false}
use Rattle.std.proofs.lemmas.Option.{MatchOption-at_none, MatchOption-at_some}
use Rattle.ids_base.specs.Shapes.{is_shape}
use Rattle.row_codec.specs.Views.{entry_in}
use Rattle.row_codec.proofs.Entries.{entry_of_long, entry_of_bad, bad_number, bad_shape, bad_entry, other_spelling}
use Rattle.row_codec.proofs.catalogue.decode_table.Goals as goal
use Rattle.row_codec.proofs.catalogue.decode_table.Goals.{then-row-lt100-via-then-row-lt100, then-row-lt100-via-else-row-lt100+then-not-is_shape}

pub returns-then-bytes-ne359 : goal.returns-then-bytes-ne359
returns-then-bytes-ne359 c = sym (entry_of_long c.args.bytes.now c.if-bytes-ne359.true)

pub returns-in_default : goal.returns-in_default
returns-in_default c = sym (entry_of_bad c.args.bytes.now (MatchOption-at_none _ _ c.in_default.is c.in_ok-row.ensures))

pub returns-then-row-lt100 : goal.returns-then-row-lt100
returns-then-row-lt100 c =
    let same = MatchOption-at_some _ _ c.in-Some.row c.in-Some.is c.in_ok-row.ensures in
    elim c.then-row-lt100.branch [
      | then-row-lt100-via-then-row-lt100 w ↦ bad_entry c.args.bytes.now (entry_in c.in-Some.row) same (bad_number (entry_in c.in-Some.row) w.if-row-lt100.true)
      | then-row-lt100-via-else-row-lt100+then-not-is_shape w ↦
          let bad : is_shape c.in-Some.row.shape ≡ false = ap is_shape (sym w.as_slice.ensures) ∙ sym w.is_shape.ensures ∙ w.if-not-is_shape.true in
          bad_entry c.args.bytes.now (entry_in c.in-Some.row) same (bad_shape (entry_in c.in-Some.row) bad)
    ]

pub returns-else-eq : goal.returns-else-eq
returns-else-eq c =
    other_spelling c.args.bytes.now c.bytes.result.now (entry_in c.in-Some.row) c.eq.result (MatchOption-at_some _ _ c.in-Some.row c.in-Some.is c.in_ok-row.ensures) (c.bytes.ensures.bytes ∙ c.in_ok-spelled.ensures.bytes) c.eq.ensures c.if-eq.false
