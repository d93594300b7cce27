use Rattle.std.proofs.Common.{◌≡◌, ◌-◌, None}
use Rattle.log_records.specs.Reading.{names_at}
use Rattle.log_records.proofs.NameLoops.{behind}
use Rattle.log_records.proofs.reading.behind_names.Given as goal

abbrev pub invariant-loop : goal.invariant-loop
invariant-loop l = behind (names_at (l.count - l.counter) l.last l.rest) ≡ behind (names_at l.count None l.bytes)
