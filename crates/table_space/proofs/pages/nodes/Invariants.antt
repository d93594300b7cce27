use Rattle.std.proofs.Common.{◌≡◌, [], length}
use Rattle.table_space.proofs.pages.nodes.Given as goal

abbrev pub invariant-loop : goal.invariant-loop
invariant-loop l = (l.made.items ≡ []) × (length l.made.spare ≡ l.counter)
