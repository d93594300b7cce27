use Rattle.ids_outside.proofs.Runs.{started}
use Rattle.ids_outside.proofs.laws.started.Goals as goal

pub returns : goal.returns
returns g c = λ p old same. started g.D.Disk.now g.D.Disk.can_leave g.D.Disk.left_at old (g.S.Steps.step p) (g.met.D.Disk.only_now old) (g.met.D.Disk.no_later old) same
