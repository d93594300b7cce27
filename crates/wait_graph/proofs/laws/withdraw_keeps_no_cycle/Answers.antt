use Rattle.wait_graph.proofs.Kept.{withdrawn-none}
use Rattle.wait_graph.proofs.laws.withdraw_keeps_no_cycle.Goals as goal

pub returns : goal.returns
returns c = withdrawn-none
