use Rattle.std.proofs.Common.{◌≡◌, ◌+◌, replicate, None}
use Rattle.std.specs.Vec.{vec_len, vec_capacity}
use Rattle.thread_queues.proofs.places.Threads.new.Given as goal

abbrev pub invariant-loop : goal.invariant-loop
invariant-loop l = record {
  empty : l.running.items ≡ replicate l.counter None;
  len : vec_len l.running ≡ l.counter;
  room : vec_capacity l.running ≡ l.cpu + 3;
}
