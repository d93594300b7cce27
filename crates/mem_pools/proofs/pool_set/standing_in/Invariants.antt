use Rattle.std.proofs.Common.{◌≡◌, ◌≤◌, take, is_some}
use Rattle.std.specs.List.{count_by}
use Rattle.mem_pools.proofs.pool_set.standing_in.Given as goal

abbrev pub invariant-loop-slot : goal.invariant-loop-slot
invariant-loop-slot l = record {
  counted : l.standing ≡ count_by (λ s. is_some s) (take l.slot-index l.slots);
  fits : l.standing ≤ l.slot-index;
}
