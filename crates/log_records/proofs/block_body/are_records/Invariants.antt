use Rattle.std.proofs.Common.{◌≡◌, ◌-◌}
use Rattle.log_records.specs.Reading.{entries_at}
use Rattle.log_records.proofs.EntryLoops.{ends_there}
use Rattle.log_records.proofs.block_body.are_records.Given as goal

abbrev pub invariant-loop : goal.invariant-loop
invariant-loop l = ends_there (entries_at (l.count - l.counter) l.rest) ≡ ends_there (entries_at l.count l.bytes)
