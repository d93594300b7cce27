use Rattle.std.proofs.Common.{◌+◌, ◌-◌, ◌≤◌, length, slice_index_or, arith}
use Rattle.ids_outside.proofs.Overlays.{copied_mid, overlay_past}
use Rattle.ids_outside.proofs.chunks.write_chunk.Goals as goal

pub returns-then-at-chunk : goal.returns-then-at-chunk
returns-then-at-chunk c = overlay_past c.args.at (length c.args.bytes.now) c.args.chunk.now (λ i. slice_index_or c.args.bytes.now (i - c.args.at) 0) (omega (arith, c.if-at-chunk.true))

pub returns : goal.returns
returns c =
    let at = c.args.at in let k = c.min-count.result in
    let there : at ≤ length c.args.chunk.now = omega (arith, c.if-at-chunk.false) in
    copied_mid at k (at + k - at) c.copy_from_slice.new.self c.args.bytes.now c.args.chunk.now there c.min-count.ensures (omega arith) c.copy_from_slice.ensures.after
