use Rattle.std.proofs.Common.{ap, ◌∙◌}
use Rattle.std.specs.Prelude.{nat_eq}
use Rattle.indexmap.specs.IndexMap.{get}
use Rattle.table_space.specs.Noted.{row_of}
use Rattle.table_space.specs.Directory.{entries_at}
use Rattle.table_space.proofs.Standing.{row_of-stays, there-same}
use Rattle.table_space.proofs.space.TableSpace.end_tx.Goals as goal

pub invariant_of-self : goal.invariant_of-self
invariant_of-self c = record {
  there = there-same c.args.self.now.ledger.directory c.end.new.self.directory (λ t. get nat_eq c.args.self.now.tables.entered t) c.args.self.now.there
      (λ t k. ap row_of (c.end.ensures.ended t k) ∙ row_of-stays c.args.tx (entries_at c.args.self.now.ledger.directory t k));
}
