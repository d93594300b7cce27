use Rattle.wait_graph.specs.Reached.{AgainstFound}
use Rattle.wait_graph.specs.Search.{IsTree, IsLonger}
use Rattle.wait_graph.specs.Targets.{next}
use Rattle.wait_graph.proofs.search.add_against.Given as goal

abbrev pub invariant-loop-k : goal.invariant-loop-k
invariant-loop-k l = record {
  tree : IsTree (next l.locks l.asked) l.asked.start l.found.threads.keys l.found.parents.items;
  longer : IsLonger l.initial.found.threads.keys l.found.threads.keys;
  done : AgainstFound l.asked.start l.found.threads.keys l.waiter.thread l.waiter.mode l.line l.from l.k;
}
