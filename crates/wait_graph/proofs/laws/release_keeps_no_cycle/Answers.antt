use Rattle.wait_graph.proofs.Kept.{released-none}
use Rattle.wait_graph.proofs.laws.release_keeps_no_cycle.Goals as goal

pub returns : goal.returns
returns c = released-none
