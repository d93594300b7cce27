use Rattle.ids_outside.proofs.Runs.{then}
use Rattle.ids_outside.proofs.laws.then.Goals as goal

pub returns : goal.returns
returns g c = λ p q r old mid new one two weaker joined. then g.D.Disk.now g.D.Disk.can_leave g.D.Disk.left_at old mid new (g.A.Steps.step p) (g.B.Steps.step q) (g.C.Steps.step r) one two weaker joined
