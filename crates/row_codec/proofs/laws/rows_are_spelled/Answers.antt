use Rattle.row_codec.proofs.RowBytes.{row-spelled}
use Rattle.row_codec.proofs.laws.rows_are_spelled.Goals as goal

pub returns : goal.returns
returns c = row-spelled
