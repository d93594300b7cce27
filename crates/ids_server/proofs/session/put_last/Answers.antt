use Rattle.ids_server.proofs.Carrying.{puts-flushed}
use Rattle.ids_server.proofs.session.put_last.Goals as goal

pub returns-then-at_once : goal.returns-then-at_once
returns-then-at_once g c = λ before last is.
    puts-flushed _ _ _ _ (c.put_last_text.ensures before last is) c.flush.ensures.grows c.flush.ensures.carries c.flush.ensures.caused
