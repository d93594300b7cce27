use Rattle.std.proofs.Common.{◌≡◌, ◌≤◌, ◌+◌, ◌-◌, ◌∷◌, replicate}
use Rattle.std.specs.List.{range_with_len}
use Rattle.std.specs.Vec.{vec_len, vec_capacity}
use Rattle.mem_pools.proofs.Made.{nothing}
use Rattle.mem_pools.proofs.chains.Chains.new.Given as goal

abbrev pub invariant-loop-block : goal.invariant-loop-block
invariant-loop-block l = record {
  linked : l.next.items ≡ range_with_len 1 l.block;
  len : vec_len l.next ≡ l.block;
  room : vec_capacity l.next ≡ l.blocks;
}

abbrev pub invariant-loop : goal.invariant-loop
invariant-loop l = record {
  made : l.ends.items ≡ record { first = 0; last = l.blocks - 1; count = l.blocks } ∷ replicate l.counter nothing;
  len : vec_len l.ends ≡ l.counter + 1;
  room : vec_capacity l.ends ≡ l.others + 1;
}
