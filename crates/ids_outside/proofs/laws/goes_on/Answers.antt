use Rattle.ids_outside.proofs.Runs.{goes_on}
use Rattle.ids_outside.proofs.laws.goes_on.Goals as goal

pub returns : goal.returns
returns g c = λ p old mid new run time here. goes_on g.D.Disk.now g.D.Disk.can_leave g.D.Disk.left_at old mid new (g.S.Steps.step p) run time here
