use Rattle.std.specs.Prelude.{nat_eq}
use Rattle.indexmap.specs.IndexMap.{get}
use Rattle.table_space.proofs.Standing.{there-entered}
use Rattle.table_space.proofs.space.TableSpace.enter_key.Goals as goal

pub invariant_of-self : goal.invariant_of-self
invariant_of-self c = record {
  there = there-entered c.args.self.now.ledger.directory c.enter.new.self.directory (λ t. get nat_eq c.args.self.now.tables.entered t) c.args.self.now.there c.enter.result c.args.table c.args.key.now c.args.tx c.enter.ensures.entered c.enter.ensures.err;
}
