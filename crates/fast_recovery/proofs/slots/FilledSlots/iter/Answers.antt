use Rattle.std.proofs.Common.{ap, sym, ◌∙◌}
use Rattle.std.specs.FinMap.{entries, nat_cmp-IsAntisymmetric}
use Rattle.std.specs.Cmp.{nat_cmp_total}
use Rattle.ids_model.specs.Slots.{Slots}
use Rattle.ids_model.proofs.Made.{entries-made}
use Rattle.fast_recovery.proofs.slots.FilledSlots.iter.Goals as goal

pub returns : goal.returns
returns c =
    c.iter.ensures.rest
    ∙ sym (entries-made nat_cmp_total nat_cmp-IsAntisymmetric c.self.inside.rows c.iter.ensures.ordered)
    ∙ ap (λ (m : Slots). entries m) c.self.view_is
