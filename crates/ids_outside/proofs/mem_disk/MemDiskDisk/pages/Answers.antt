use Rattle.std.proofs.Common.{◌≡◌, ◌∙◌, ◌<◌, ◌/◌, ap, sym, arith, length, []}
use Rattle.std.proofs.lemmas.List.{get_or_past}
use Rattle.ids_outside.specs.Images.{chunk_of}
use Rattle.ids_outside.specs.MemoryDisk.{images, nine}
use Rattle.ids_outside.proofs.Extensions.{chunk_of-nine}
use Rattle.ids_outside.proofs.Vectors.{chunk_of-images, length-images}
use Rattle.ids_outside.proofs.mem_disk.MemDiskDisk.pages.Goals as goal

pub overflow_cast-result : goal.overflow_cast-result
overflow_cast-result c =
    let d = c.args.self.now in let v = c.index-bytes.result.now in let x = images d.image.items in
    let lt : c.args.chunk < length d.image.items = omega (arith, c.if-chunk-len.false, c.len.ensures) in
    let here = chunk_of-nine x c.args.chunk ∙ chunk_of-images d.image.items c.args.chunk v lt c.index-bytes.ensures in
    let same : c.len-2.result ≡ length (chunk_of (nine x) c.args.chunk) = omega (arith, c.len-2.ensures, v.ok.0, ap (λ l. length l) here) in
    omega (arith, ap (λ n. n / 2048) same, d.small c.args.chunk)

pub returns-then-chunk-len : goal.returns-then-chunk-len
returns-then-chunk-len c =
    let x = images c.args.self.now.image.items in
    let none = chunk_of-nine x c.args.chunk ∙ get_or_past x c.args.chunk [] (omega (arith, c.if-chunk-len.true, c.len.ensures, length-images c.args.self.now.image.items)) in
    ap (λ l. length l / 2048) (sym none)

pub returns : goal.returns
returns c =
    let d = c.args.self.now in let v = c.index-bytes.result.now in let x = images d.image.items in
    let lt : c.args.chunk < length d.image.items = omega (arith, c.if-chunk-len.false, c.len.ensures) in
    let here = chunk_of-nine x c.args.chunk ∙ chunk_of-images d.image.items c.args.chunk v lt c.index-bytes.ensures in
    let same : c.len-2.result ≡ length (chunk_of (nine x) c.args.chunk) = omega (arith, c.len-2.ensures, v.ok.0, ap (λ l. length l) here) in
    ap (λ n. n / 2048) same
