use Rattle.std.proofs.Common.{ℕ, List, length, get_or, ap, ◌∙◌}
use Rattle.slot_page.specs.Pages.{Paged}
use Rattle.slot_page.proofs.HeadBytes.{count_of-page_bytes}
use Rattle.slot_page.proofs.page.Page.slots.Goals as goal

pub returns : goal.returns
returns c = ap (λ (bytes : List ℕ). get_or bytes 6 0) c.self.invariant.spelled ∙ (count_of-page_bytes _ ∙ ap (λ (p : Paged). length p.rows) c.self.view_is)
