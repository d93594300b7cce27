use Rattle.std.proofs.Common.{◌∙◌, ap, sym, arith, length, get_or}
use Rattle.ids_outside.specs.MemoryDisk.{images, nine}
use Rattle.ids_outside.proofs.Images.{bytes_of-same}
use Rattle.ids_outside.proofs.Extensions.{chunk_of-nine}
use Rattle.ids_outside.proofs.mem_disk.MemDiskDisk.read.Goals as goal

pub read-requires : goal.read-requires
read-requires c =
    let d = c.args.self.now in
    omega (arith, c.requires, d.left.image.pages c.args.chunk, ap (λ l. length l) (chunk_of-nine (images d.image.items) c.args.chunk))

pub returns-clause-bytes : goal.returns-clause-bytes
returns-clause-bytes c =
    let x = images c.args.self.now.image.items in
    c.read.ensures ∙ bytes_of-same (nine x) x c.args.chunk c.args.offset (length c.args.into.now) (λ i from to. ap (λ l. get_or l i 0) (sym (chunk_of-nine x c.args.chunk)))
