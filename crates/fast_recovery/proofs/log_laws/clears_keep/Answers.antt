use Rattle.log_files.specs.Files.{file_end}
use Rattle.fast_recovery.proofs.LogKept.{clears_outlive, clears_keeps}
use Rattle.fast_recovery.proofs.log_laws.clears_keep.Goals as goal

pub returns-clause-ready : goal.returns-clause-ready
returns-clause-ready g c = λ since base before all marks files buffer old new keeps run ready ordered.
    clears_keeps g.D.Disk since base before all marks files (file_end files files.limit) buffer old new keeps run ordered ready

pub returns-clause-outlives : goal.returns-clause-outlives
returns-clause-outlives g c = λ since base before all marks files buffer old new keeps run ordered.
    clears_outlive g.D.Disk since base before all marks files buffer old new keeps run ordered
