use Rattle.std.proofs.Common.{ℕ, ◌<◌, ◌≤◌, ◌-◌, length}
use Rattle.wait_graph.specs.Targets.{next}
use Rattle.wait_graph.specs.Reached.{HasLines, AreScanned}
use Rattle.wait_graph.specs.Search.{IsTree, IsClosedAt}
use Rattle.wait_graph.proofs.search.find_cycle.Given as goal

abbrev pub invariant-loop-at : goal.invariant-loop-at
invariant-loop-at l = record {
  tree : IsTree (next l.locks l.asked) l.asked.start l.found.threads.keys l.found.parents.items;
  within : l.at ≤ length l.found.threads.keys;
  closed : (j : ℕ) → j < l.at → IsClosedAt (next l.locks l.asked) l.asked.start l.found.threads.keys j;
  lines : HasLines (next l.locks l.asked) l.reached;
  scanned : AreScanned l.asked.start l.found.threads.keys l.reached;
}

abbrev pub decreases-loop-at : goal.decreases-loop-at
decreases-loop-at l = 4294967296 - l.at
