use Rattle.fast_recovery.proofs.LogKept.{opening_keeps}
use Rattle.fast_recovery.proofs.log_laws.openings_keep.Goals as goal

pub returns : goal.returns
returns g c = λ base before files room disk ready held.
    opening_keeps g.D.Disk base before files room disk (g.met.D.Disk.only_now disk) (g.met.D.Disk.no_later disk) ready held
