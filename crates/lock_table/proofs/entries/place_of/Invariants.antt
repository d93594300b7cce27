use Rattle.std.proofs.Common.{◌≡◌, ◌+◌, length}
use Rattle.lock_table.specs.Book.{table_of}
use Rattle.lock_table.specs.Table.{holders, queue}
use Rattle.lock_table.specs.Requests.{is_overtaken, up_to}
use Rattle.lock_table.proofs.entries.place_of.Given as goal

abbrev pub invariant-loop-waiter : goal.invariant-loop-waiter
invariant-loop-waiter l = record {
  so_far : l.place + length (up_to (is_overtaken (holders (table_of l.book) l.name) l.thread) l.waiters) ≡ length (up_to (is_overtaken (holders (table_of l.book) l.name) l.thread) (queue (table_of l.book) l.name));
  few : l.place + length l.waiters ≡ length (queue (table_of l.book) l.name);
}

abbrev pub decreases-loop-waiter : goal.decreases-loop-waiter
decreases-loop-waiter l = length l.waiters
