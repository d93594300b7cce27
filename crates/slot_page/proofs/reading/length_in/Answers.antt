use Rattle.std.proofs.Common.{◌∙◌, arith}
use Rattle.slot_page.proofs.HeadBytes.{length_of-bytes}
use Rattle.slot_page.proofs.reading.length_in.Goals as goal

pub returns : goal.returns
returns c = c.from_be_bytes.ensures ∙ length_of-bytes c.args.bytes.now (omega arith)
