use Rattle.std.proofs.Common.{length, ◌-◌, ◌≤◌, take, drop}
use Rattle.sql_reader.proofs.Stands.{Stands}
use Rattle.sql_reader.proofs.line.judge.Given as goal

abbrev pub invariant-loop-at : goal.invariant-loop-at
invariant-loop-at l = (l.at ≤ length l.bytes) × Stands (take l.at l.bytes) (drop l.at l.bytes) l.place l.edge

abbrev pub decreases-loop-at : goal.decreases-loop-at
decreases-loop-at l = length l.bytes - l.at
