use Rattle.row_codec.proofs.RowBytes.{row_of-length}
use Rattle.row_codec.proofs.Entries.{entry_of-length}
use Rattle.row_codec.proofs.laws.lengths.Goals as goal

pub returns-clause-rows : goal.returns-clause-rows
returns-clause-rows c = row_of-length

pub returns-clause-entries : goal.returns-clause-entries
returns-clause-entries c = entry_of-length
