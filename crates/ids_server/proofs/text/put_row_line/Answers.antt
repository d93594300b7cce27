use Rattle.ids_server.proofs.Carrying.{puts-then}
use Rattle.ids_server.proofs.text.put_row_line.Goals as goal

pub returns : goal.returns
returns g c = puts-then _ _ _ _ _ (puts-then _ _ _ _ _ c.put_head.ensures c.put_row.ensures) c.put.ensures
