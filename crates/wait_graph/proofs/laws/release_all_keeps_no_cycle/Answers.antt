use Rattle.wait_graph.proofs.Kept.{all_released-none}
use Rattle.wait_graph.proofs.laws.release_all_keeps_no_cycle.Goals as goal

pub returns : goal.returns
returns c = all_released-none
