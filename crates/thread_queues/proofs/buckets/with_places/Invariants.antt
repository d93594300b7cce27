use Rattle.std.proofs.Common.{◌≡◌, ℕ, []}
use Rattle.link_lists.specs.Lists.{list_at, list_count, id_count, IsSound}
use Rattle.thread_queues.proofs.buckets.with_places.Given as goal

abbrev pub invariant-loop : goal.invariant-loop
invariant-loop l = record {
  count : list_count l.buckets ≡ l.count;
  places : id_count l.buckets ≡ l.counter;
  empty : (b : ℕ) → list_at l.buckets b ≡ [];
  sound : IsSound l.buckets;
}
