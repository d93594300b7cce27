use Rattle.std.proofs.Common.{◌≡◌, ◌≤◌, ◌+◌, ◌-◌, ℕ}
use Rattle.ids_outside.specs.Stops.{AreAmong, Leaves}
use Rattle.fast_recovery.specs.PagedStates.{IsPagedState}
use Rattle.fast_recovery.specs.LogRead.{AreAlone}
use Rattle.fast_recovery.proofs.BlocksRead.{ReadUpTo}
use Rattle.fast_recovery.proofs.roll_forward.read_log.Given as goal

abbrev pub ghosts-started : goal.ghosts-started
ghosts-started g a = record { Place = Unit {0}; step = λ p x y. y ≡ x }

abbrev pub ghosts-then-A-Steps : goal.ghosts-then-A-Steps
ghosts-then-A-Steps g a = record { Place = Unit {0}; step = λ p x y. y ≡ x }

abbrev pub ghosts-then-B-Steps : goal.ghosts-then-B-Steps
ghosts-then-B-Steps g a = record { Place = Unit {0}; step = λ p x y. y ≡ x }

abbrev pub ghosts-then-C-Steps : goal.ghosts-then-C-Steps
ghosts-then-C-Steps g a = record { Place = Unit {0}; step = λ p x y. y ≡ x }

-- the blocks before the next were read, and the disk is as it was
abbrev pub invariant-loop-past : goal.invariant-loop-past
invariant-loop-past g l = record {
  from : 1 ≤ l.past.next;
  to : l.past.next ≤ 1 + l.files.region.count;
  read : g.D.Disk.tells → ReadUpTo l.pages l.files.region (g.D.Disk.image l.fn.disk) l.initial.past l.past;
  alone : AreAlone l.past.open_tx l.past.replay.standing;
  paged : IsPagedState l.pages l.past.replay;
  same : g.D.Disk.image l.disk ≡ g.D.Disk.image l.fn.disk;
  stop : AreAmong (g.D.Disk.can_leave l.disk) (g.D.Disk.can_leave l.fn.disk);
  run : Leaves g.D.Disk.now g.D.Disk.can_leave g.D.Disk.left_at l.fn.disk l.disk (λ x y. y ≡ x);
  sizes : (j : ℕ) → g.D.Disk.size l.disk j ≡ g.D.Disk.size l.fn.disk j;
  faults : g.D.Disk.fault_count l.fn.disk ≤ g.D.Disk.fault_count l.disk;
}

abbrev pub decreases-loop-past : goal.decreases-loop-past
decreases-loop-past g l = 1 + l.files.region.count - l.past.next
