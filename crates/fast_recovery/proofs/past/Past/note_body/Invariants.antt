use Rattle.std.proofs.Common.{◌≡◌, take, drop}
use Rattle.fast_recovery.specs.LogRead.{GoesOn}
use Rattle.fast_recovery.proofs.past.Past.note_body.Given as goal

-- the first records were noted, and the others are left
abbrev pub invariant-loop-index : goal.invariant-loop-index
invariant-loop-index l = record {
  goes : GoesOn l.pages l.fn.self (take l.index l.body.entries) l.self;
  left : l.records ≡ drop l.index l.body.entries;
  next : l.self.next ≡ l.fn.self.next;
}
