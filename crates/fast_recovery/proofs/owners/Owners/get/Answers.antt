use Rattle.std.proofs.Common.{ap, sym, ◌∙◌}
use Rattle.ids_model.specs.Slots.{Own, own_at}
use Rattle.fast_recovery.proofs.Made.{get-made}
use Rattle.fast_recovery.proofs.owners.Owners.get.Goals as goal

pub returns : goal.returns
returns c = c.copied.ensures ∙ c.get.ensures.value ∙ sym (get-made c.self.inside.owners c.args.page) ∙ ap (λ (m : Own). own_at m c.args.page) c.self.view_is
