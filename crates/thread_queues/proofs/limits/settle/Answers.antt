use Rattle.std.proofs.Common.{◌∙◌, ◌-◌, ◌/◌, sym, subst, refl, arith, Option}
use Rattle.std.proofs.Math.ListN.{set}
use Rattle.std.proofs.Math.Seq.{map-set_same}
use Rattle.std.proofs.lemmas.List.{map-set, length-set}
use Rattle.thread_queues.specs.declared.event.Due.{Due}
use Rattle.thread_queues.specs.declared.limits.Node.{Node}
use Rattle.thread_queues.specs.Tree.{no_node, own_at}
use Rattle.thread_queues.proofs.Trees.{SettledBut, settle-own, settle-up}
use Rattle.thread_queues.proofs.limits.settle.Goals as goal

pub loop-at-init : goal.loop-at-init
loop-at-init c = record {
  below = omega (arith, c.requires.place, length-set {A = Node});
  settled = settle-own c.args.nodes.now c.args.place c.args.due c.requires.place c.requires.tree;
  own = map-set (λ (n : Node). n.own) c.args.nodes.now c.args.place _;
}

pub loop-at-preserved : goal.loop-at-preserved
loop-at-preserved c = record {
  below = omega (arith, c.loop-at.invariant.below, length-set {A = Node});
  settled =
      subst (λ (f : Option Due). SettledBut (set c.loop-at.nodes (c.loop-at.at - 1) (record { own = own_at c.loop-at.nodes (c.loop-at.at - 1); first = f })) (c.loop-at.at / 2)) (sym c.first_below.ensures)
      (settle-up c.loop-at.nodes c.loop-at.at (c.loop-at.at - 1) (omega arith) (omega (arith, c.loop-at.invariant.below)) c.loop-at.invariant.settled);
  own = map-set_same (λ (n : Node). n.own) c.loop-at.nodes (c.loop-at.at - 1) _ no_node refl ∙ c.loop-at.invariant.own;
}

pub returns-clause-tree : goal.returns-clause-tree
returns-clause-tree c = λ k lt. c.loop-at.invariant.settled k lt (λ e. omega (arith, e, c.loop-at-test.false))
