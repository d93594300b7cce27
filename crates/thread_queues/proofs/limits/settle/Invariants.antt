use Rattle.std.proofs.Common.{◌≡◌, ◌≤◌, length, map}
use Rattle.std.proofs.Math.ListN.{set}
use Rattle.thread_queues.proofs.Trees.{SettledBut}
use Rattle.thread_queues.proofs.limits.settle.Given as goal

abbrev pub invariant-loop-at : goal.invariant-loop-at
invariant-loop-at l = record {
  below : l.at ≤ length l.nodes;
  settled : SettledBut l.nodes l.at;
  own : map (λ n. n.own) l.nodes ≡ set (map (λ n. n.own) l.fn.nodes) l.fn.place l.fn.due;
}

abbrev pub decreases-loop-at : goal.decreases-loop-at
decreases-loop-at l = l.at
