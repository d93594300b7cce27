use Rattle.slot_page.specs.Pages.{unowned}
use Rattle.slot_page.proofs.Accepted.{zeros_spell}
use Rattle.slot_page.proofs.Spelled.{IsPageBytes-spelled, read_page-spelled}
use Rattle.slot_page.proofs.page.Page.unowned.Goals as goal

pub invariant_of-result : goal.invariant_of-result
invariant_of-result c = IsPageBytes-spelled c.blank.result unowned (zeros_spell c.blank.result c.blank.ensures.len c.blank.ensures.zero)

pub returns : goal.returns
returns c = read_page-spelled c.blank.result unowned (zeros_spell c.blank.result c.blank.ensures.len c.blank.ensures.zero)
