use Rattle.ids_outside.proofs.Runs.{torn}
use Rattle.ids_outside.proofs.laws.torn.Goals as goal

pub returns : goal.returns
returns g c = λ p old mid new chunk at n run time follows inside. torn g.D.Disk.now g.D.Disk.can_leave g.D.Disk.left_at old mid new (g.P.Places.changed p) chunk at n run time follows inside
