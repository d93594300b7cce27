use Rattle.std.proofs.Common.{ap, ◌∙◌}
use Rattle.std.specs.FinMap as map
use Rattle.ids_base.specs.Orders.{names_total, names_exact}
use Rattle.ids_model.proofs.Made.{insert-made}
use Rattle.fast_recovery.specs.Found.{Numbers}
use Rattle.fast_recovery.proofs.numbers.TableNumbers.set.Goals as goal

pub returns-clause-ok : goal.returns-clause-ok
returns-clause-ok c =
    insert-made names_total names_exact c.self.inside.numbers c.insert.new.self c.args.name c.args.number c.in_ok-insert.ensures.updates.0
    ∙ ap (λ (m : Numbers). map.insert m c.args.name c.args.number) c.self.view_is
