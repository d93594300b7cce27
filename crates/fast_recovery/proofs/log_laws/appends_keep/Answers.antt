use Rattle.fast_recovery.proofs.LogKept.{append_keeps}
use Rattle.fast_recovery.proofs.log_laws.appends_keep.Goals as goal

pub returns : goal.returns
returns g c = λ since base before all marks files buffer e disk keeps.
    append_keeps g.D.Disk since base before all marks files buffer e disk keeps
