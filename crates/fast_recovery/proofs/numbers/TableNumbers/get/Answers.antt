use Rattle.std.proofs.Common.{ap, sym, ◌∙◌}
use Rattle.std.specs.FinMap as map
use Rattle.ids_base.specs.Orders.{names_total}
use Rattle.ids_model.proofs.Made.{get-made}
use Rattle.fast_recovery.specs.Found.{Numbers}
use Rattle.fast_recovery.proofs.numbers.TableNumbers.get.Goals as goal

pub returns : goal.returns
returns c = c.copied.ensures ∙ c.get.ensures.value ∙ sym (get-made names_total c.self.inside.numbers c.args.name.now) ∙ ap (λ (m : Numbers). map.get m c.args.name.now) c.self.view_is
