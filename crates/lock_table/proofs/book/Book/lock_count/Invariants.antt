use Rattle.std.proofs.Common.{◌≡◌, count_by}
use Rattle.lock_table.specs.Book.{in_list}
use Rattle.lock_table.specs.Kept.{joined}
use Rattle.lock_table.specs.Table.{is_of}
use Rattle.lock_table.proofs.book.Book.lock_count.Given as goal

abbrev pub invariant-loop-bucket : goal.invariant-loop-bucket
invariant-loop-bucket l = l.count ≡ count_by (is_of l.thread) (joined l.bucket (in_list l.self))
