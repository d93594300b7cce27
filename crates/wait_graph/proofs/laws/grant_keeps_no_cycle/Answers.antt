use Rattle.wait_graph.proofs.Kept.{granted-none}
use Rattle.wait_graph.proofs.laws.grant_keeps_no_cycle.Goals as goal

pub returns : goal.returns
returns c = granted-none
