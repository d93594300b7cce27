use Rattle.std.proofs.Common.{◌∙◌}
use Rattle.row_codec.proofs.Entries.{made, entry_has_row_length, length_of_entry, entry_again}
use Rattle.row_codec.proofs.catalogue.encode_table.Goals as goal

pub from_vec-requires : goal.from_vec-requires
from_vec-requires c = entry_has_row_length c.in_ok-bytes.bytes.items (made c.args.number c.args.name.now c.args.shape.now) c.in_ok-bytes.ensures.bytes c.in_ok-bytes.ensures.good

pub returns-clause-length : goal.returns-clause-length
returns-clause-length c = length_of_entry c.from_vec.result (made c.args.number c.args.name.now c.args.shape.now) (c.from_vec.ensures ∙ c.in_ok-bytes.ensures.bytes) c.in_ok-bytes.ensures.good

pub returns-clause-again : goal.returns-clause-again
returns-clause-again c = entry_again c.from_vec.result (made c.args.number c.args.name.now c.args.shape.now) (c.from_vec.ensures ∙ c.in_ok-bytes.ensures.bytes) c.in_ok-bytes.ensures.good
