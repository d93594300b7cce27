use Rattle.std.proofs.Common.{◌≡◌, ◌-◌, slice_get}
use Rattle.lock_table.proofs.entries.at.Given as goal

abbrev pub invariant-loop : goal.invariant-loop
invariant-loop l = slice_get l.rest (l.fn.position - l.counter) ≡ slice_get l.fn.entries l.fn.position
