use Rattle.std.proofs.Common.{◌≡◌, ℕ, ◌+◌, ◌<◌}
use Rattle.link_lists.specs.Nodes.{EachHasNode, node_at}
use Rattle.link_lists.proofs.web.Web.new.Given as goal

abbrev pub invariant-loop-list : goal.invariant-loop-list
invariant-loop-list l = record {
  full : EachHasNode l.nodes l.lists;
  next : (k : ℕ) → k < l.list → (node_at l.nodes k).next ≡ 2147483648 + k;
  prev : (k : ℕ) → k < l.list → (node_at l.nodes k).prev ≡ 2147483648 + k;
}
