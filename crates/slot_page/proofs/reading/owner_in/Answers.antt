use Rattle.std.proofs.Common.{◌∙◌, arith}
use Rattle.slot_page.proofs.HeadBytes.{owner_of-bytes}
use Rattle.slot_page.proofs.reading.owner_in.Goals as goal

pub returns : goal.returns
returns c = c.from_be_bytes.ensures ∙ owner_of-bytes c.args.bytes.now (omega arith)
