use Rattle.std.proofs.Common.{sym, ap}
use Rattle.ids_model.specs.Tables.{Row}
use Rattle.ids_model.specs.Text.{row_text, head_text, line}
use Rattle.ids_server.proofs.Carrying.{puts-then, puts-same}
use Rattle.ids_server.proofs.Texts.{rows_text-more}
use Rattle.ids_server.proofs.text.put_rows.Goals as goal

pub loop-row-preserved : goal.loop-row-preserved
loop-row-preserved g c =
    let one = puts-same _ _ _ _ (ap (λ (r : Row). line (head_text c.args.session c.args.number) (row_text r)) c.as_slice.ensures) c.put_row_line.ensures in
    puts-same _ _ _ _ (sym (rows_text-more _ _ _ _ c.loop-row-test.true c.row-item.is)) (puts-then _ _ _ _ _ c.loop-row.invariant one)
