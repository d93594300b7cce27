use Rattle.std.proofs.Common.{◌≡◌, take}
use Rattle.ids_outside.specs.MemoryDisk.{images}
use Rattle.ids_outside.proofs.chunks.copied.Given as goal

abbrev pub invariant-loop-chunk : goal.invariant-loop-chunk
invariant-loop-chunk l = images l.copy.items ≡ images (take l.chunk-index l.image.items)
