use Rattle.std.proofs.Common.{◌≡◌, length, map, None}
use Rattle.link_lists.specs.Lists.{list_at, first_of}
use Rattle.thread_queues.specs.Laid.{block_at}
use Rattle.thread_queues.specs.Orders.{first_from}
use Rattle.thread_queues.proofs.Walking.{from}
use Rattle.thread_queues.proofs.order.first_behind.Given as goal

abbrev pub invariant-loop-at : goal.invariant-loop-at
invariant-loop-at l = record {
  at : l.at ≡ first_of (from l.at (list_at l.lists l.list));
  same : first_from l.order l.from l.first (map (block_at l.blocks) (from l.at (list_at l.lists l.list))) ≡ first_from l.order l.from None (map (block_at l.blocks) (list_at l.lists l.list));
}

abbrev pub decreases-loop-at : goal.decreases-loop-at
decreases-loop-at l = length (from l.at (list_at l.lists l.list))
