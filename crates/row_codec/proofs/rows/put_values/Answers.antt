use Rattle.std.proofs.Common.{◌≡◌, ◌≤◌, length, min, arith, rules}
use Rattle.std.proofs.lemmas.Slice.Zip.{zip_end}
use Rattle.row_codec.proofs.RowBytes.{row-long}
use Rattle.row_codec.proofs.Loops.{all_written, all_texts}
use Rattle.row_codec.proofs.rows.put_values.Goals as goal

turns : (c : goal.In-None) → length c.loop-column.yielded ≡ min (length c.args.columns.now) (length c.args.values.now)
turns c = zip_end c.args.columns.now c.args.values.now c.loop-column.yielded c.into_iter-column-iterator.result c.loop-column.column-iterator c.next.new.self c.next.result (search rules) (search rules) c.loop-column.yielded_by c.in-None.is c.next.ensures.steps

pub returns-clause-bytes : goal.returns-clause-bytes
returns-clause-bytes c =
    let ends : length c.args.columns.now ≤ length c.loop-column.yielded = omega (arith, turns c, row-long c.args.columns.now c.args.values.now c.requires) in
    all_written _ _ c.args.columns.now c.args.values.now (length c.loop-column.yielded) ends c.loop-column.invariant

pub returns-clause-texts : goal.returns-clause-texts
returns-clause-texts c =
    let ends : length c.args.values.now ≤ length c.loop-column.yielded = omega (arith, turns c, row-long c.args.columns.now c.args.values.now c.requires) in
    all_texts c.args.bytes.now.items c.loop-column.bytes.items c.args.columns.now c.args.values.now (length c.loop-column.yielded) ends c.loop-column.invariant
