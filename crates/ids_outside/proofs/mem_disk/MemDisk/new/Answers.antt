use Rattle.std.proofs.Common.{sym, subst, arith}
use Rattle.ids_outside.specs.MemoryDisk.{IsMemoryImage}
use Rattle.ids_outside.proofs.Vectors.{zeros_fit}
use Rattle.ids_outside.proofs.mem_disk.MemDisk.new.Goals as goal

pub from_image-requires : goal.from_image-requires
from_image-requires c =
    subst (λ x. IsMemoryImage x) (sym c.in_ok-image.ensures) (zeros_fit c.args.pages.now c.min-count.result c.min-count.ensures (λ k. omega (arith, c.type_inv.pages k)))
