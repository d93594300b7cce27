use Rattle.std.proofs.Common.{◌≡◌, ◌*◌, ◌<◌, ◌^◌, ◌≤◌, ℕ, length}
use Rattle.ids_outside.specs.Images.{chunk_of, pages_of}
use Rattle.ids_outside.specs.MemoryDisk.{images}
use Rattle.ids_outside.proofs.chunks.is_image.Given as goal

abbrev pub invariant-loop-chunk : goal.invariant-loop-chunk
invariant-loop-chunk l = record {
  few : length l.image.items ≤ 9;
  pages : (j : ℕ) → j < l.chunk-index → length (chunk_of (images l.image.items) j) ≡ 2048 * pages_of (images l.image.items) j;
  fits : (j : ℕ) → j < l.chunk-index → pages_of (images l.image.items) j < 2 ^ 32;
}
