use Rattle.std.proofs.Common.{length}
use Rattle.mem_pools.proofs.Appending.{Goes}
use Rattle.mem_pools.proofs.pool_set.Pools.append.Given as goal

abbrev pub invariant-loop-rest : goal.invariant-loop-rest
invariant-loop-rest l = Goes l.initial.self l.self l.pool l.bytes l.rest

abbrev pub decreases-loop-rest : goal.decreases-loop-rest
decreases-loop-rest l = length l.rest
