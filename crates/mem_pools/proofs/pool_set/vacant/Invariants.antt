use Rattle.std.proofs.Common.{◌≡◌, take, is_some}
use Rattle.std.specs.List.{count_by}
use Rattle.mem_pools.proofs.pool_set.vacant.Given as goal

abbrev pub invariant-loop-i : goal.invariant-loop-i
invariant-loop-i l = count_by (λ s. is_some s) (take l.i l.slots) ≡ l.i
