use Rattle.std.proofs.Common.{ap, ◌∙◌}
use Rattle.std.specs.FinMap as map
use Rattle.fast_recovery.specs.Reading.{Names}
use Rattle.fast_recovery.proofs.Made.{insert-made}
use Rattle.fast_recovery.proofs.names.TableNames.set.Goals as goal

pub returns : goal.returns
returns c =
    insert-made c.self.inside.names c.insert.new.self c.args.number c.args.name c.in_ok-insert.ensures.updates.0
    ∙ ap (λ (m : Names). map.insert m c.args.number c.args.name) c.self.view_is
