use Rattle.std.proofs.Common.{ap, sym, ◌∙◌}
use Rattle.std.specs.FinMap as map
use Rattle.fast_recovery.specs.Reading.{Names}
use Rattle.fast_recovery.proofs.Made.{get-made}
use Rattle.fast_recovery.proofs.names.TableNames.get.Goals as goal

pub returns : goal.returns
returns c = c.get.ensures.value ∙ sym (get-made c.self.inside.names c.args.number) ∙ ap (λ (m : Names). map.get m c.args.number) c.self.view_is
