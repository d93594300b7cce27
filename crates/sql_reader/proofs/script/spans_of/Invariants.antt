use Rattle.std.proofs.Common.{length, ◌+◌, ◌-◌}
use Rattle.sql_reader.proofs.Lines.{Kept}
use Rattle.sql_reader.proofs.script.spans_of.Given as goal

abbrev pub invariant-loop-start : goal.invariant-loop-start
invariant-loop-start l = Kept l.bytes l.start l.spans.items

abbrev pub decreases-loop-start : goal.decreases-loop-start
decreases-loop-start l = length l.bytes + 1 - l.start
