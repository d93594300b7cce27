use Rattle.wait_graph.proofs.Kept.{empty-none}
use Rattle.wait_graph.proofs.laws.empty_has_no_cycle.Goals as goal

pub returns : goal.returns
returns c = empty-none
