use Rattle.std.proofs.Common.{sym}
use Rattle.ids_server.proofs.Carrying.{puts-then, puts-same}
use Rattle.ids_server.proofs.Texts.{row_text-more}
use Rattle.ids_server.proofs.text.put_row.Goals as goal

pub loop-value-preserved : goal.loop-value-preserved
loop-value-preserved g c =
    puts-same _ _ _ _ (sym (row_text-more _ _ _ c.loop-value-test.true c.value-item.is)) (puts-then _ _ _ _ _ c.loop-value.invariant (puts-then _ _ _ _ _ c.put_value.ensures c.put.ensures))
