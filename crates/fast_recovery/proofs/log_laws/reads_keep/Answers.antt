use Rattle.std.proofs.Common.{◌≡◌, sym, subst}
use Rattle.ids_outside.specs.Images.{Image}
use Rattle.fast_recovery.specs.KeptLog.{HasLog}
use Rattle.fast_recovery.proofs.LogKept.{same_keeps}
use Rattle.fast_recovery.proofs.log_laws.reads_keep.Goals as goal

pub returns : goal.returns
returns g c = λ since base before all marks files buffer old new keeps run ready.
    same_keeps g.D.Disk since base before all marks files buffer old new (λ (x y : Image). y ≡ x) keeps run
    (λ x y log same. subst (λ (z : Image). HasLog files base before keeps.written z) (sym same) log) ready
