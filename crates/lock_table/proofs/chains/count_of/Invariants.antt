use Rattle.std.proofs.Common.{◌≡◌, ◌+◌, ◌≤◌, length, count_by}
use Rattle.link_lists.specs.Lists.{list_at}
use Rattle.lock_table.specs.Chains.{entries_of, since, IsAlong}
use Rattle.lock_table.specs.Table.{is_of}
use Rattle.lock_table.proofs.chains.count_of.Given as goal

abbrev pub invariant-loop-at : goal.invariant-loop-at
invariant-loop-at l = record {
  along : IsAlong l.lists l.list l.at;
  so_far : l.count + count_by (is_of l.thread) (entries_of l.entries (since l.at (list_at l.lists l.list))) ≡ count_by (is_of l.thread) (entries_of l.entries (list_at l.lists l.list));
  few : l.count + length (since l.at (list_at l.lists l.list)) ≤ length (list_at l.lists l.list);
}

abbrev pub decreases-loop-at : goal.decreases-loop-at
decreases-loop-at l = length (since l.at (list_at l.lists l.list))
