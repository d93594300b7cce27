use Rattle.wait_graph.proofs.Kept.{unchanged-none}
use Rattle.wait_graph.proofs.laws.unchanged_keeps_no_cycle.Goals as goal

pub returns : goal.returns
returns c = unchanged-none
