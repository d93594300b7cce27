use Rattle.std.proofs.Common.{◌≡◌, ◌==◌, ◌++◌, ℕ, true, length, None}
use Rattle.std.specs.List.{filter}
use Rattle.link_lists.specs.Lists.{list_at, home_at, list_count, id_count, first_of, has, IsSound}
use Rattle.thread_queues.specs.Laid.{block_at, bucket_of}
use Rattle.thread_queues.proofs.Walking.{from}
use Rattle.thread_queues.proofs.buckets.filled.Given as goal

abbrev pub invariant-loop-at : goal.invariant-loop-at
invariant-loop-at l = record {
  at : l.at ≡ first_of (from l.at (list_at l.queues 4));
  sound : IsSound l.buckets;
  count : list_count l.buckets ≡ l.count;
  places : id_count l.buckets ≡ l.places;
  free : (x : ℕ) → has x (from l.at (list_at l.queues 4)) ≡ true → home_at l.buckets x ≡ None;
  all : (b : ℕ) → list_at l.buckets b ++ filter (λ x. bucket_of l.count (block_at l.blocks x).event == b) (from l.at (list_at l.queues 4)) ≡ filter (λ x. bucket_of l.count (block_at l.blocks x).event == b) (list_at l.queues 4);
}

abbrev pub decreases-loop-at : goal.decreases-loop-at
decreases-loop-at l = length (from l.at (list_at l.queues 4))
