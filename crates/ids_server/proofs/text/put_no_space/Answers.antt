use Rattle.ids_server.proofs.Carrying.{puts-then}
use Rattle.ids_server.proofs.text.put_no_space.Goals as goal

pub returns : goal.returns
returns g c = puts-then _ _ _ _ _ (puts-then _ _ _ _ _ c.put_head.ensures (puts-then _ _ _ _ _ (puts-then _ _ _ _ _ c.put_named.ensures c.put.ensures) c.put_number.ensures)) c.put-2.ensures
