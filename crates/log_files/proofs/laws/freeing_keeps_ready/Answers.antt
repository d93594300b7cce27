use Rattle.log_files.proofs.Freeing.{ready_freed}
use Rattle.log_files.proofs.laws.freeing_keeps_ready.Goals as goal

pub returns : goal.returns
returns g c = λ files block disk from to ready. ready_freed files block from to g.D.Disk disk ready
