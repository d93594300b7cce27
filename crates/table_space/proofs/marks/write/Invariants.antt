use Rattle.std.proofs.Common.{◌≡◌, ◌≤◌, ◌<◌, ◌*◌, ◌/◌, drop, length, slice_set}
use Rattle.table_space.proofs.MarkTrees.{IsLawBut}
use Rattle.table_space.proofs.marks.write.Given as goal

abbrev pub invariant-loop-node : goal.invariant-loop-node
invariant-loop-node l = record {
  some : 1 ≤ l.node;
  within : l.node < length l.nodes;
  twice : length l.nodes ≡ 2 * l.width;
  law : IsLawBut l.nodes (l.node / 2);
  places : drop l.width l.nodes ≡ slice_set (drop l.width l.fn.nodes) l.place l.marks;
}

abbrev pub decreases-loop-node : goal.decreases-loop-node
decreases-loop-node l = l.node
