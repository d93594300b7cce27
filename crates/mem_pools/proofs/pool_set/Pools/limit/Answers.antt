use Rattle.std.proofs.Common.{arith}
use Rattle.mem_pools.proofs.Keeping.{seen_len}
use Rattle.mem_pools.proofs.pool_set.Pools.limit.Goals as goal

pub returns : goal.returns
returns c = let v = c.self.inside in omega (arith, seen_len v.blocks.items v.slots.items v.chains c.args.self.now c.self.invariant c.self.view_is, c.len.ensures)
