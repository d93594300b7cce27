use Rattle.std.proofs.Common.{◌-◌, length, slice_index_or, arith}
use Rattle.ids_outside.proofs.Vectors.{overlay_one, overlay_none}
use Rattle.ids_outside.proofs.chunks.write.Goals as goal

pub returns-then-chunk-len : goal.returns-then-chunk-len
returns-then-chunk-len c =
    overlay_one c.args.image.now.items c.args.chunk c.args.at (length c.args.bytes.now) (λ i. slice_index_or c.args.bytes.now (i - c.args.at) 0) c.index_mut.result.now c.deref_mut.result.now c.write_chunk.new.chunk
    (omega (arith, c.if-chunk-len.true, c.len.ensures)) c.index_mut.ensures.value c.deref_mut.ensures.value c.write_chunk.ensures

pub returns-else-chunk-len : goal.returns-else-chunk-len
returns-else-chunk-len c =
    overlay_none c.args.image.now.items c.args.chunk c.args.at (length c.args.bytes.now) (λ i. slice_index_or c.args.bytes.now (i - c.args.at) 0) (omega (arith, c.if-chunk-len.false, c.len.ensures))
