use Rattle.std.proofs.Common.{◌<◌, arith}
use Rattle.chunk_map.specs.Checkpoints.{root_page}
use Rattle.chunk_map.proofs.Renewing.{newest_same}
use Rattle.chunk_map.proofs.laws.same_pages.Goals as goal

pub returns-clause-newest : goal.returns-clause-newest
returns-clause-newest c = λ p x y same newest. newest_same p x y same newest

pub returns-clause-apart : goal.returns-clause-apart
returns-clause-apart c = λ r x y one two same.
    let below : 0 < 1 = omega arith in
    (c.apart.ensures.blocks r (root_page 1) x y one same 0 below, c.apart.ensures.blocks r (root_page 2) x y two same 0 below)
