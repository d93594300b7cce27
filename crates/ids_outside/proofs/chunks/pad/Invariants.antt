use Rattle.std.proofs.Common.{◌≡◌, length}
use Rattle.ids_outside.specs.MemoryDisk.{images, nine}
use Rattle.ids_outside.proofs.chunks.pad.Given as goal

abbrev pub invariant-loop-count : goal.invariant-loop-count
invariant-loop-count l = record {
  count : length l.image.items ≡ l._count;
  same : nine (images l.image.items) ≡ nine (images l.fn.image.items);
}
