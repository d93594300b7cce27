use Rattle.std.proofs.Common.{◌∙◌, sym}
use Rattle.row_codec.proofs.Loops.{read_next}
use Rattle.row_codec.proofs.rows.decode.Goals as goal

pub loop-column-preserved : goal.loop-column-preserved
loop-column-preserved c =
    read_next c.as_slice-columns.result.now c.loop-column.rest.now c.loop-column.row c.loop-column.column-index _ c.column-item.result c.in-Some-2.value c.in-Some.front.now c.in-Some.behind.now c.push.new.self c.column_size.result
    c.loop-column-test.true c.column-item.is c.column_size.ensures c.in-Some.ensures.cases (sym c.in-Some-2.is ∙ c.in_ok-value.ensures) c.in_ok-push.ensures.ok c.loop-column.invariant
