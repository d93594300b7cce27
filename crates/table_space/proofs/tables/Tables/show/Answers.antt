use Rattle.std.proofs.Common.{None, sym, ◌∙◌}
use Rattle.std.specs.Prelude.{nat_eq}
use Rattle.indexmap.specs.IndexMap.{get}
use Rattle.table_space.specs.declared.tables.Entered.{Entered}
use Rattle.table_space.proofs.ShownNames.{names-show, numbers-kept}
use Rattle.table_space.proofs.tables.Tables.show.Goals as goal

pub invariant_of-self : goal.invariant_of-self
invariant_of-self c = record {
  numbers = numbers-kept (λ t. get nat_eq c.args.self.now.entered t) (λ t. get nat_eq c.swap_node.new.entered t) c.args.table (λ (e : Entered). record e { node = None }) c.swap_node.ensures.here c.swap_node.ensures.beside c.args.self.now.numbers;
  names = names-show (λ t. get nat_eq c.args.self.now.entered t) (λ t. get nat_eq c.swap_node.new.entered t) c.args.self.now.shown c.insert.new.self c.args.table c.in-Some.name c.in-Some-swap_node.node (sym c.name_of.ensures ∙ c.in-Some.is) c.swap_node.ensures.beside c.args.self.now.names
      (sym c.swap_node.ensures.given ∙ c.in-Some-swap_node.is) c.swap_node.ensures.here c.insert.ensures.put;
  ordered = c.insert.ensures.ordered;
}
