use Rattle.table_space.proofs.KeyStates.{put-becomes}
use Rattle.table_space.proofs.index.keep.Goals as goal

pub returns : goal.returns
returns c = put-becomes c.args.keys.now c.insert.new.self _ _ c.in-Ok.ensures.updates.0 c.in-Ok.ensures.entries c.requires.sorted c.in-Ok.ensures.ordered
