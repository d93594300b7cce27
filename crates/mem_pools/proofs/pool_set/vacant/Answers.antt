use Rattle.std.proofs.Common.{arith}
use Rattle.mem_pools.proofs.Counted.{all_taken}
use Rattle.mem_pools.proofs.pool_set.vacant.Goals as goal

pub returns-then-is_none-clause-least : goal.returns-then-is_none-clause-least
returns-then-is_none-clause-least c = λ i h. all_taken c.args.slots.now c.loop-i.i i (omega (arith, c.loop-i.auto.i-end, c.loop-i-test.true)) c.loop-i.invariant h
