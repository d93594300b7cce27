use Rattle.std.proofs.Common.{◌≡◌, length, replicate, None}
use Rattle.std.specs.List.{All}
use Rattle.std.specs.Vec.{vec_len, vec_capacity}
use Rattle.mem_pools.proofs.pool_set.Pools.new.Given as goal

abbrev pub invariant-loop : goal.invariant-loop
invariant-loop l = record {
  sized : All (λ b. length b ≡ 2048) l.data.items;
  len : vec_len l.data ≡ l.counter;
  room : vec_capacity l.data ≡ l.blocks;
}

abbrev pub invariant-loop-2 : goal.invariant-loop-2
invariant-loop-2 l = record {
  empty : l.slots.items ≡ replicate l.counter None;
  len : vec_len l.slots ≡ l.counter;
  room : vec_capacity l.slots ≡ l.pools;
}
