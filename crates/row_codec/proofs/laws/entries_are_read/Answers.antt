use Rattle.row_codec.proofs.Entries.{entry-read}
use Rattle.row_codec.proofs.laws.entries_are_read.Goals as goal

pub returns : goal.returns
returns c = entry-read
