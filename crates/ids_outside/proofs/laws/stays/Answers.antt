use Rattle.ids_outside.proofs.Runs.{stays}
use Rattle.ids_outside.proofs.laws.stays.Goals as goal

pub returns : goal.returns
returns g c = λ p old mid new run time same. stays g.D.Disk.now g.D.Disk.can_leave g.D.Disk.left_at old mid new (g.S.Steps.step p) run time same
