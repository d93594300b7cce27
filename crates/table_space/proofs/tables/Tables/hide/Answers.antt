use Rattle.std.proofs.Common.{Some, sym, ◌∙◌}
use Rattle.std.specs.Prelude.{nat_eq}
use Rattle.indexmap.specs.IndexMap.{get}
use Rattle.table_space.specs.declared.tables.Entered.{Entered}
use Rattle.table_space.proofs.ShownNames.{names-hide, names-none, numbers-kept}
use Rattle.table_space.proofs.tables.Tables.hide.Goals as goal

pub invariant_of-self-in-Some-remove : goal.invariant_of-self-in-Some-remove
invariant_of-self-in-Some-remove c = record {
  numbers = numbers-kept (λ t. get nat_eq c.args.self.now.entered t) (λ t. get nat_eq c.swap_node.new.entered t) c.args.table (λ (e : Entered). record e { node = Some c.in-Some-remove.node }) c.swap_node.ensures.here c.swap_node.ensures.beside c.args.self.now.numbers;
  names = names-hide (λ t. get nat_eq c.args.self.now.entered t) (λ t. get nat_eq c.swap_node.new.entered t) c.args.self.now.shown c.remove.new.self c.args.table c.in-Some.name c.in-Some-remove.node (sym c.name_of.ensures ∙ c.in-Some.is) c.swap_node.ensures.beside c.args.self.now.names
      c.in-Some-remove.node.value.item c.swap_node.ensures.here c.in-Some-remove.ensures.taken;
  ordered = c.remove.ensures.ordered;
}

pub returns-in-None-clause-shows : goal.returns-in-None-clause-shows
returns-in-None-clause-shows c = names-none (λ t. get nat_eq c.args.self.now.entered t) c.args.self.now.shown c.args.table c.in-Some.name (sym c.name_of.ensures ∙ c.in-Some.is) c.args.self.now.names c.in-None.ensures.taken.0
