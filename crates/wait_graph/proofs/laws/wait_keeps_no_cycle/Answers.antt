use Rattle.wait_graph.proofs.Kept.{waiting-none}
use Rattle.wait_graph.proofs.laws.wait_keeps_no_cycle.Goals as goal

pub returns : goal.returns
returns c = waiting-none
