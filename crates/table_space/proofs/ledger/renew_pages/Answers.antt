use Rattle.std.proofs.Common.{◌∙◌, refl, arith}
use Rattle.table_space.proofs.Fronts.{same-stays}
use Rattle.table_space.proofs.Reserving.{reserves-renewed}
use Rattle.table_space.proofs.ledger.renew_pages.Goals as goal

pub loop-page-preserved : goal.loop-page-preserved
loop-page-preserved c = record {
  some = omega arith;
  pages = c.renew.ensures.reserve_pages ∙ c.loop-page.invariant.pages;
  reserves = reserves-renewed c.args.owners.now c.args.owners.now c.loop-page.reserves c.renew.new.reserves c.in-Some.page 0 (omega arith) (λ other ne. same-stays (λ t k. refl) other) refl (λ p first other. refl)
      c.renew.ensures.here c.renew.ensures.others c.loop-page.invariant.reserves;
}
