use Rattle.std.proofs.Common.{◌≡◌, ◌∙◌, ◌+◌, ◌-◌, ◌≤◌, length, take, drop, ap, replicate, arith, length-drop, length-take}
use Rattle.ids_outside.proofs.Overlays.{filled_mid, overlay_past}
use Rattle.ids_outside.proofs.chunks.fill_chunk.Goals as goal

pub returns-then-at-chunk : goal.returns-then-at-chunk
returns-then-at-chunk c = overlay_past c.args.at c.args.len c.args.chunk.now (λ i. c.args.byte) (omega (arith, c.if-at-chunk.true))

pub returns : goal.returns
returns c =
    let at = c.args.at in let k = c.min-count.result in
    let there : at ≤ length c.args.chunk.now = omega (arith, c.if-at-chunk.false) in
    let xs = c.args.chunk.now in
    let size : length (take (at + k - at) (drop at xs)) ≡ k = simp (length-take, length-drop) (omega (arith, there, c.min-count.ensures)) in
    let filled = c.fill.ensures.after (λ y e. e) ∙ ap (λ n. replicate n c.args.byte) size in
    filled_mid at c.args.len k (at + k - at) c.args.byte c.fill.new.self c.args.chunk.now there c.min-count.ensures (omega arith) filled
