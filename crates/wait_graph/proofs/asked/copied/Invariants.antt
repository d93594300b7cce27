use Rattle.std.proofs.Common.{◌≡◌, ◌++◌}
use Rattle.wait_graph.proofs.asked.copied.Given as goal

abbrev pub invariant-loop-entry : goal.invariant-loop-entry
invariant-loop-entry l = l.copy.items ++ l.entry-iterator ≡ l.fn.entries
