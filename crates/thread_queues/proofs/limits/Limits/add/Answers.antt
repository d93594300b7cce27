use Rattle.std.proofs.Common.{List, length, ap, sym, subst, ◌∷◌, [], length-append, arith}
use Rattle.std.proofs.lemmas.List.{length-map}
use Rattle.thread_queues.specs.declared.limits.Node.{Node}
use Rattle.thread_queues.specs.Tree.{IsLimited, no_node}
use Rattle.thread_queues.proofs.Trees.{tree-more}
use Rattle.thread_queues.proofs.limits.Limits.add.Goals as goal

pub invariant_of-self-2 : goal.invariant_of-self-2
invariant_of-self-2 c = subst (λ (ns : List Node). IsLimited ns) (sym c.in_ok-push.ensures.items) (record {
  tree = tree-more c.self.inside.nodes.items c.self.invariant.tree;
  few = omega (arith, c.requires, ap length c.self.view_is, length-map c.self.inside.nodes.items (λ (n : Node). n.own), length-append c.self.inside.nodes.items (no_node ∷ []));
})
