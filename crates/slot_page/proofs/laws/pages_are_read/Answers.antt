use Rattle.slot_page.proofs.Spelled.{page_of-page_bytes}
use Rattle.slot_page.proofs.laws.pages_are_read.Goals as goal

pub returns : goal.returns
returns c = page_of-page_bytes
