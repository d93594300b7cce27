-- The invariant of a disk in memory, from its ghost fields.
use Rattle.ids_outside.specs.Held.{first_of, image_of}
use Rattle.ids_outside.specs.declared.mem_disk.MemDisk.{MemDisk}
use Rattle.ids_outside.proofs.Kept.{Good}

pub held : (d : MemDisk) → Good (image_of d) (first_of d) d.entries.items d.moment
held d = record { in_time = d.in_time; small = d.small; shown = d.shown; left = d.left; whole = d.whole }
