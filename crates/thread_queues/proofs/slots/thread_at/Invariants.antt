use Rattle.std.proofs.Common.{◌≡◌, length, map}
use Rattle.std.specs.List.{filter, slice_get}
use Rattle.link_lists.specs.Lists.{list_at, first_of}
use Rattle.thread_queues.specs.Laid.{block_at}
use Rattle.thread_queues.specs.Orders.{counts}
use Rattle.thread_queues.specs.Slotted.{threads_of}
use Rattle.thread_queues.proofs.Walking.{from}
use Rattle.thread_queues.proofs.slots.thread_at.Given as goal

abbrev pub invariant-loop-at : goal.invariant-loop-at
invariant-loop-at l = record {
  at : l.at ≡ first_of (from l.at (list_at l.lists l.list));
  same : slice_get (threads_of (filter (counts l.event) (map (block_at l.blocks) (from l.at (list_at l.lists l.list))))) l.left ≡ slice_get (threads_of (filter (counts l.event) (map (block_at l.blocks) (list_at l.lists l.list)))) l.position;
}

abbrev pub decreases-loop-at : goal.decreases-loop-at
decreases-loop-at l = length (from l.at (list_at l.lists l.list))
