use Rattle.std.proofs.Common.{◌≤◌, ◌<◌, ℕ}
use Rattle.chunk_map.proofs.identity.has_pages.Given as goal

abbrev pub invariant-loop-chunk : goal.invariant-loop-chunk
invariant-loop-chunk g l = (j : ℕ) → 1 ≤ j → j < l.chunk → l.layout.data_pages ≤ g.D.Disk.size l.disk j
