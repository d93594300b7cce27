use Rattle.std.proofs.Common.{ap, ◌∙◌}
use Rattle.log_records.specs.Bodies.{Body, entries_size}
use Rattle.log_records.proofs.Kept.{used_is}
use Rattle.log_records.proofs.block_body.BlockBody.used.Goals as goal

pub returns-clause-used : goal.returns-clause-used
returns-clause-used c = used_is c.self.inside.count c.self.inside.used c.self.inside.bytes c.self.invariant ∙ ap (λ (b : Body). entries_size b.entries) c.self.view_is
