use Rattle.wait_graph.proofs.Kept.{told-none}
use Rattle.wait_graph.proofs.laws.tell_keeps_no_cycle.Goals as goal

pub returns : goal.returns
returns c = told-none
