use Rattle.std.proofs.Common.{◌≡◌, ◌*◌, map, replicate, take}
use Rattle.ids_outside.specs.MemoryDisk.{images}
use Rattle.ids_outside.proofs.chunks.zeros.Given as goal

abbrev pub invariant-loop-count : goal.invariant-loop-count
invariant-loop-count l = images l.chunks.items ≡ map (λ p. replicate (2048 * p) 0) (take l.count-index l.pages)
