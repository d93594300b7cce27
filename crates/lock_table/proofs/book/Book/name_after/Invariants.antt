use Rattle.lock_table.proofs.Ordered.{IsBest}
use Rattle.lock_table.proofs.book.Book.name_after.Given as goal

abbrev pub invariant-loop-id : goal.invariant-loop-id
invariant-loop-id l = IsBest l.self l.after l.id l.best
