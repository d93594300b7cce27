use Rattle.std.proofs.Common.{◌≡◌, arith}
use Rattle.mem_pools.proofs.Keeping.{kept_unused}
use Rattle.mem_pools.proofs.pool_set.Pools.new.Goals as goal

pub returns : goal.returns
returns c =
    let whole : c.loop-2.counter ≡ c.args.pools = omega arith in
    let made = c.in_ok-chains.ensures.made in
    rw (c.loop-2.invariant.empty, whole, made) (kept_unused c.loop.data.items c.args.blocks c.args.pools)
