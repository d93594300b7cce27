use Rattle.slot_page.proofs.Spelled.{page_of-spelled}
use Rattle.slot_page.proofs.laws.pages_are_spelled.Goals as goal

pub returns : goal.returns
returns c = page_of-spelled
