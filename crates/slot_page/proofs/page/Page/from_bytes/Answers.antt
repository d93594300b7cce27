use Rattle.std.proofs.Common.{Some, sym, ap}
use Rattle.std.proofs.lemmas.Bool.{iff_false}
use Rattle.slot_page.specs.Pages.{Paged}
use Rattle.slot_page.proofs.HeadBytes.{AreBytes-from_fits}
use Rattle.slot_page.proofs.Spelled.{page_of-read, page_of-none, IsPageBytes-spelled, read_page-spelled}
use Rattle.slot_page.proofs.page.Page.from_bytes.Goals as goal

pub returns-then-is_page : goal.returns-then-is_page
returns-then-is_page c =
    let here = c.is_page.ensures.0 c.if-is_page.true in
    record {
      exact = sym (page_of-read c.args.bytes.now here);
      spelled = (here.page, here.spelled);
      read = λ p page spelled. ap (λ (q : Paged). Some q) (read_page-spelled c.args.bytes.now p (record { page = page; spelled = spelled }));
    }

pub returns-else-is_page : goal.returns-else-is_page
returns-else-is_page c =
    let none = iff_false c.is_page.ensures c.if-is_page.false in
    record {
      exact = sym (page_of-none c.args.bytes.now (AreBytes-from_fits c.args.bytes.now c.fits-bytes) none);
      spelled = tt;
      read = λ p page spelled. absurd (none (IsPageBytes-spelled c.args.bytes.now p (record { page = page; spelled = spelled })));
    }
