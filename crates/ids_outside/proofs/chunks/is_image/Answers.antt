use Rattle.std.proofs.Common.{◌≡◌, ◌∙◌, ◌*◌, ◌/◌, ◌<◌, ◌^◌, length, get_or, ap, subst, arith, below_more}
use Rattle.ids_outside.specs.Images.{chunk_of, pages_of}
use Rattle.ids_outside.specs.MemoryDisk.{images}
use Rattle.ids_outside.proofs.Vectors.{chunk_of-images}
use Rattle.ids_outside.proofs.chunks.is_image.Goals as goal

pub returns-then-len-count-clause-told : goal.returns-then-len-count-clause-told
returns-then-len-count-clause-told c = λ whole.
    let vs = c.args.image.now.items in let k = c.loop-chunk.chunk-index in let v = c.chunk-item.result in
    let same = c.deref-chunk-items.ensures.value in
    let lt : k < length vs = subst (λ l. k < length l) same c.loop-chunk-test.true in
    let is : v ≡ get_or vs k v = c.chunk-item.is ∙ ap (λ l. get_or l k v) same in
    let size : length (chunk_of (images vs) k) ≡ length v.items = ap (λ l. length l) (chunk_of-images vs k v lt is) in
    absurd (omega (arith, whole.pages k, size, v.ok.0, c.len-count.ensures, c.len-in-loop-chunk.ensures, c.if-len-count.true))

pub returns-then-count-clause-told : goal.returns-then-count-clause-told
returns-then-count-clause-told c = λ whole.
    let vs = c.args.image.now.items in let k = c.loop-chunk.chunk-index in let v = c.chunk-item.result in
    let same = c.deref-chunk-items.ensures.value in
    let lt : k < length vs = subst (λ l. k < length l) same c.loop-chunk-test.true in
    let is : v ≡ get_or vs k v = c.chunk-item.is ∙ ap (λ l. get_or l k v) same in
    let size : length (chunk_of (images vs) k) ≡ length v.items = ap (λ l. length l) (chunk_of-images vs k v lt is) in
    absurd (omega (arith, whole.fits k, ap (λ n. n / 2048) size, v.ok.0, c.len-count.ensures, c.if-count.true))

pub loop-chunk-preserved : goal.loop-chunk-preserved
loop-chunk-preserved c =
    let vs = c.args.image.now.items in let k = c.loop-chunk.chunk-index in let v = c.chunk-item.result in
    let same = c.deref-chunk-items.ensures.value in
    let lt : k < length vs = subst (λ l. k < length l) same c.loop-chunk-test.true in
    let is : v ≡ get_or vs k v = c.chunk-item.is ∙ ap (λ l. get_or l k v) same in
    let size : length (chunk_of (images vs) k) ≡ length v.items = ap (λ l. length l) (chunk_of-images vs k v lt is) in
    let whole : length (chunk_of (images vs) k) ≡ 2048 * pages_of (images vs) k =
    omega (arith, size, ap (λ n. n / 2048) size, v.ok.0, c.len-count.ensures, c.len-in-loop-chunk.ensures, c.if-len-count.false) in
    let fits : pages_of (images vs) k < 2 ^ 32 = omega (arith, ap (λ n. n / 2048) size, v.ok.0, c.len-count.ensures, c.if-count.false) in
    record {
      few = c.loop-chunk.invariant.few;
      pages = below_more _ _ c.loop-chunk.invariant.pages whole;
      fits = below_more _ _ c.loop-chunk.invariant.fits fits;
    }
