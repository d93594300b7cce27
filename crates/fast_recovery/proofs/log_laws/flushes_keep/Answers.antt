use Rattle.fast_recovery.proofs.LogKept.{flushed_outlives, flushed_keeps}
use Rattle.fast_recovery.proofs.log_laws.flushes_keep.Goals as goal

pub returns-clause-keeps : goal.returns-clause-keeps
returns-clause-keeps g c = λ since base before all marks files buffer old new keeps run ready ring room.
    flushed_keeps g.D.Disk since base before all marks files buffer old new keeps run ready ring room (g.met.D.Disk.only_now new) (g.met.D.Disk.no_later new)

pub returns-clause-outlives : goal.returns-clause-outlives
returns-clause-outlives g c = λ since base before all marks files buffer old new keeps run ordered.
    flushed_outlives g.D.Disk since base before all marks files buffer old new keeps run ordered
