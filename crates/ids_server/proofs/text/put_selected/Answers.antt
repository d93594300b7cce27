use Rattle.ids_server.proofs.Carrying.{puts-then}
use Rattle.ids_server.proofs.text.put_selected.Goals as goal

pub returns : goal.returns
returns g c = puts-then _ _ _ _ _ c.put_rows.ensures c.put_count.ensures
