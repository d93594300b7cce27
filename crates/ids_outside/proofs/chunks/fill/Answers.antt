use Rattle.std.proofs.Common.{arith}
use Rattle.ids_outside.proofs.Vectors.{overlay_one, overlay_none}
use Rattle.ids_outside.proofs.chunks.fill.Goals as goal

pub returns-then-chunk-len : goal.returns-then-chunk-len
returns-then-chunk-len c =
    overlay_one c.args.image.now.items c.args.chunk c.args.at c.args.len (λ i. c.args.byte) c.index_mut.result.now c.deref_mut.result.now c.fill_chunk.new.chunk
    (omega (arith, c.if-chunk-len.true, c.len.ensures)) c.index_mut.ensures.value c.deref_mut.ensures.value c.fill_chunk.ensures

pub returns-else-chunk-len : goal.returns-else-chunk-len
returns-else-chunk-len c =
    overlay_none c.args.image.now.items c.args.chunk c.args.at c.args.len (λ i. c.args.byte) (omega (arith, c.if-chunk-len.false, c.len.ensures))
