use Rattle.ids_outside.proofs.Runs.{seen_as}
use Rattle.ids_outside.proofs.laws.seen_as.Goals as goal

pub returns : goal.returns
returns g c = λ p q old new run weaker. seen_as g.D.Disk.now g.D.Disk.can_leave g.D.Disk.left_at old new (g.A.Steps.step p) (g.B.Steps.step q) run weaker
