use Rattle.row_codec.proofs.RowBytes.{row-read}
use Rattle.row_codec.proofs.laws.rows_are_read.Goals as goal

pub returns : goal.returns
returns c = row-read
