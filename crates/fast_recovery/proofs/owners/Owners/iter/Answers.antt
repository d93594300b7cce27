use Rattle.std.proofs.Common.{ap, sym, ◌∙◌, subst}
use Rattle.std.specs.FinMap.{entries, nat_cmp-IsAntisymmetric}
use Rattle.std.specs.Cmp.{nat_cmp_total}
use Rattle.ids_model.specs.Slots.{Own}
use Rattle.ids_model.proofs.Made.{entries-made}
use Rattle.fast_recovery.specs.Pages.{ArePages}
use Rattle.fast_recovery.proofs.owners.Owners.iter.Goals as goal

pub returns-clause-all : goal.returns-clause-all
returns-clause-all c =
    c.iter.ensures.rest
    ∙ sym (entries-made nat_cmp_total nat_cmp-IsAntisymmetric c.self.inside.owners c.iter.ensures.ordered)
    ∙ ap (λ (m : Own). entries m) c.self.view_is

pub returns-clause-pages : goal.returns-clause-pages
returns-clause-pages c = subst ArePages c.self.view_is c.self.invariant
