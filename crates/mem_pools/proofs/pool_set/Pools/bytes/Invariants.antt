use Rattle.std.proofs.Common.{◌≡◌, ◌+◌, ◌<◌, take, get_or}
use Rattle.mem_pools.specs.Linked.{list_at}
use Rattle.mem_pools.specs.Slots.{content}
use Rattle.mem_pools.proofs.pool_set.Pools.bytes.Given as goal

abbrev pub invariant-loop-k : goal.invariant-loop-k
invariant-loop-k l = record {
  copied : l.out.items ≡ content l.self-inside.blocks.items (take l.k (list_at l.self-inside.chains (l.pool + 1)));
  next : l.k < l.count → get_or (list_at l.self-inside.chains (l.pool + 1)) l.k 0 ≡ l.block;
}
