use Rattle.std.proofs.Common.{sym}
use Rattle.ids_server.proofs.Carrying.{puts-then, puts-same}
use Rattle.ids_server.proofs.Texts.{escaped-more}
use Rattle.ids_server.proofs.text.put_escaped.Goals as goal

pub loop-byte-preserved : goal.loop-byte-preserved
loop-byte-preserved g c = puts-same _ _ _ _ (sym (escaped-more _ _ c.loop-byte-test.true)) (puts-then _ _ _ _ _ c.loop-byte.invariant c.put_byte.ensures)
