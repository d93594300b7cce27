use Rattle.std.proofs.Common.{◌≡◌, ℕ, ◌-◌}
use Rattle.slab.specs.Slab.{get, slab_len, ContainsKey}
use Rattle.link_lists.proofs.web.fill.Given as goal

abbrev pub invariant-loop-nodes : goal.invariant-loop-nodes
invariant-loop-nodes l = record {
  capacity : l.nodes.capacity ≡ l.initial.nodes.capacity;
  kept : (key : ℕ) → ContainsKey l.initial.nodes key → get l.nodes key ≡ get l.initial.nodes key;
}

abbrev pub decreases-loop-nodes : goal.decreases-loop-nodes
decreases-loop-nodes l = l.nodes.capacity - slab_len l.nodes
