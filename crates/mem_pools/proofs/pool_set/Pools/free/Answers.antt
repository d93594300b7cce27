use Rattle.mem_pools.proofs.Keeping.{owned_of}
use Rattle.mem_pools.proofs.pool_set.Pools.free.Goals as goal

pub returns-clause-owned : goal.returns-clause-owned
returns-clause-owned c = owned_of _ _ _ _ c.self.invariant c.self.view_is
