-- The class of a processor.
use Rattle.std.specs.Prelude.{ℕ, ◌+◌, ◌-◌, ◌==◌, nat_lt, if◌then◌else◌}
use Rattle.ids_base.specs.declared.class.Class.{Class}
use Rattle.ids_base.specs.declared.class.Class.TheVariants.{Cpu, Lio, Pio, Aio}

-- the first `cpu` processors run threads; one for the logical log, one for the physical log and one for all else follow
abbrev pub class_of : ℕ → ℕ → Class
class_of cpu vp =
    if nat_lt vp cpu then Cpu else if vp == cpu then Lio else if vp == cpu + 1 then Pio else Aio
