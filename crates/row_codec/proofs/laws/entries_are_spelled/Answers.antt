use Rattle.row_codec.proofs.Entries.{entry-spelled}
use Rattle.row_codec.proofs.laws.entries_are_spelled.Goals as goal

pub returns : goal.returns
returns c = entry-spelled
