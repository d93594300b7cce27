use Rattle.std.proofs.Common.{◌∙◌}
use Rattle.row_codec.proofs.Loops.{row_written, row_has_length, row_has_row_length, row_again}
use Rattle.row_codec.proofs.rows.encode.Goals as goal

pub from_vec-requires : goal.from_vec-requires
from_vec-requires c =
    let written = row_written c.in_ok-bytes.bytes.items c.put_values.new.bytes.items c.as_slice-columns.result.now c.args.shape.now c.as_slice.result.now c.args.row.now c.in_ok-bytes.ensures.items c.in_ok-put_values.ensures.bytes c.as_slice-columns.ensures c.as_slice.ensures in
    row_has_row_length _ c.args.shape.now c.args.row.now written c.requires.row c.requires.some c.requires.few

pub returns-clause-length : goal.returns-clause-length
returns-clause-length c =
    let written = row_written c.in_ok-bytes.bytes.items c.put_values.new.bytes.items c.as_slice-columns.result.now c.args.shape.now c.as_slice.result.now c.args.row.now c.in_ok-bytes.ensures.items c.in_ok-put_values.ensures.bytes c.as_slice-columns.ensures c.as_slice.ensures in
    row_has_length c.from_vec.result c.args.shape.now c.args.row.now (c.from_vec.ensures ∙ written) c.requires.row

pub returns-clause-again : goal.returns-clause-again
returns-clause-again c =
    let written = row_written c.in_ok-bytes.bytes.items c.put_values.new.bytes.items c.as_slice-columns.result.now c.args.shape.now c.as_slice.result.now c.args.row.now c.in_ok-bytes.ensures.items c.in_ok-put_values.ensures.bytes c.as_slice-columns.ensures c.as_slice.ensures in
    row_again c.from_vec.result c.args.shape.now c.as_slice.result.now c.args.row.now (c.from_vec.ensures ∙ written) c.requires.row c.as_slice.ensures c.in_ok-put_values.ensures.texts
