use Rattle.std.proofs.Common.{◌∙◌}
use Rattle.table_space.proofs.FullPages.{rooms-less}
use Rattle.table_space.proofs.ledger.Ledger.enter_table.Goals as goal

pub invariant_of-self : goal.invariant_of-self
invariant_of-self c = (
  c.self.invariant.0,
  c.enter_table.ensures.pages ∙ c.self.invariant.1,
  c.self.invariant.2,
  c.self.invariant.3,
  rooms-less c.self.inside.owners c.self.inside.rooms c.enter_table.new.self c.enter_table.ensures.less c.self.invariant.4,
  c.self.invariant.5,
)
