use Rattle.std.proofs.Common.{◌≡◌}
use Rattle.fast_recovery.proofs.Greatest.{greatest_from}
use Rattle.fast_recovery.proofs.owners.Owners.greatest_table.Given as goal

-- what is left brings the number so far to the greatest of all
abbrev pub invariant-loop-owner : goal.invariant-loop-owner
invariant-loop-owner l = greatest_from l.greatest l.owner-iterator ≡ greatest_from 99 l.initial.owner-iterator
