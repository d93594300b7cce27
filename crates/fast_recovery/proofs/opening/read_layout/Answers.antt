use Rattle.std.proofs.Common.{◌≡◌, sym, subst}
use Rattle.ids_outside.specs.Images.{Image}
use Rattle.chunk_map.specs.Formatted.{NewestFault}
use Rattle.fast_recovery.specs.Faults.{fault_of}
use Rattle.fast_recovery.specs.LogRead.{OpenCause}
use Rattle.fast_recovery.proofs.Causes.{newest-cause}
use Rattle.fast_recovery.proofs.Results.{err-goes-up}
use Rattle.fast_recovery.proofs.opening.read_layout.Goals as goal

pub returns-in_err-page-clause-fault : goal.returns-in_err-page-clause-fault
returns-in_err-page-clause-fault g c =
    let base = g.D.Disk.image c.args.disk.now in let fault = c.in_err-page.field-0.0 in
    err-goes-up c.from_residual-in_err-page.result _ (λ e. g.D.Disk.tells → OpenCause base e) c.from_residual-in_err-page.ensures.1 (λ e is tells.
    let same : e ≡ fault_of fault = is in
    subst (OpenCause base) (sym same) (newest-cause base fault (subst (λ (x : Image). NewestFault x fault) c.read_identity.ensures.same (c.in_err-page.ensures.fault tells))))
