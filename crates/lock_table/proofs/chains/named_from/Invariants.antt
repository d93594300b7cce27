use Rattle.std.proofs.Common.{◌≡◌, length}
use Rattle.link_lists.specs.Lists.{list_at}
use Rattle.lock_table.specs.Chains.{since, named_since, IsAlong}
use Rattle.lock_table.proofs.chains.named_from.Given as goal

abbrev pub invariant-loop-at : goal.invariant-loop-at
invariant-loop-at l = record {
  along : IsAlong l.lists l.list l.at;
  same : named_since l.name l.lists l.entries l.list l.at ≡ named_since l.name l.lists l.entries l.list l.fn.from;
}

abbrev pub decreases-loop-at : goal.decreases-loop-at
decreases-loop-at l = length (since l.at (list_at l.lists l.list))
