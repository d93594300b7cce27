use Rattle.std.proofs.Common.{◌-◌}
use Rattle.log_records.proofs.ListLoops.{NamesLeft}
use Rattle.log_records.proofs.named_bytes.NamedBytes.to_list.Given as goal

abbrev pub invariant-loop : goal.invariant-loop
invariant-loop l = NamesLeft (l.end - l.counter) l.rest l.list l.fn.self
