use Rattle.std.proofs.Common.{◌≡◌, length}
use Rattle.mem_pools.specs.Linked.{list_at, poured, EachOnce}
use Rattle.mem_pools.proofs.chains.Chains.pour.Given as goal

abbrev pub invariant-loop : goal.invariant-loop
invariant-loop l = record {
  so_far : l.self ≡ poured l.initial.self l.from l.to l.counter;
  owned : EachOnce l.self;
}
