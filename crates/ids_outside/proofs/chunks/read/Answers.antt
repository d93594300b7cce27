use Rattle.std.proofs.Common.{◌≡◌, ◌<◌, ap, arith, length, ℕ, List}
use Rattle.ids_outside.specs.MemoryDisk.{images}
use Rattle.ids_outside.specs.Images.{chunk_of}
use Rattle.ids_outside.proofs.Overlays.{bytes_of-none}
use Rattle.ids_outside.proofs.Vectors.{read_part, chunk_of-images, none_there}
use Rattle.ids_outside.proofs.chunks.read.Goals as goal

pub returns-then-chunk-len : goal.returns-then-chunk-len
returns-then-chunk-len c =
    let v = c.index-source.result.now in
    let lt : c.args.chunk < length c.args.image.now.items = omega (arith, c.if-chunk-len.true, c.len.ensures) in
    let fits = c.requires in
    let here = chunk_of-images c.args.image.now.items c.args.chunk v lt c.index-source.ensures in
    let size : length (chunk_of (images c.args.image.now.items) c.args.chunk) ≡ length v.items = ap (λ (l : List ℕ). length l) here in
    read_part c.args.image.now.items c.args.chunk c.args.at _ (length c.args.into.now) c.deref.result.now c.copy_from_slice.new.self v
    lt c.index-source.ensures fits c.deref.ensures.value
    (omega (arith, fits, size, c.len-then-chunk-len.ensures, c.len-then-chunk-len-2.ensures)) c.copy_from_slice.ensures.after

pub returns-else-chunk-len : goal.returns-else-chunk-len
returns-else-chunk-len c =
    bytes_of-none (images c.args.image.now.items) c.args.chunk c.args.at c.args.into.now
    (none_there c.args.image.now.items c.args.chunk (length c.args.into.now) c.args.at (omega (arith, c.if-chunk-len.false, c.len.ensures)) c.requires)
