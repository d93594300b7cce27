use Rattle.std.proofs.Common.{◌≡◌, ◌<◌, ◌≤◌, ◌+◌, ℕ}
use Rattle.ids_outside.specs.Images.{SameBut}
use Rattle.ids_outside.specs.Stops.{Leaves}
use Rattle.gate_blocks.specs.Gates.{gate, shut, OpenGate, OpenGates, Closing}
use Rattle.gate_blocks.proofs.Steps.{Blocks, BlocksOf, BlockOf}
use Rattle.gate_blocks.proofs.blocks.clear_some.Given as goal

abbrev pub ghosts-started : goal.ghosts-started
ghosts-started g a = record { Place = BlocksOf; step = λ p. SameBut (OpenGates p.0 p.1 p.2 p.3) }

abbrev pub ghosts-stays : goal.ghosts-stays
ghosts-stays g a = record { Place = BlocksOf; step = λ p. SameBut (OpenGates p.0 p.1 p.2 p.3) }

abbrev pub ghosts-then-A-Steps : goal.ghosts-then-A-Steps
ghosts-then-A-Steps g a = record { Place = BlocksOf; step = λ p. SameBut (OpenGates p.0 p.1 p.2 p.3) }

abbrev pub ghosts-then-B-Steps : goal.ghosts-then-B-Steps
ghosts-then-B-Steps g a = record { Place = BlockOf; step = λ p. SameBut (OpenGate p.0 p.1 p.2) }

abbrev pub ghosts-then-C-Steps : goal.ghosts-then-C-Steps
ghosts-then-C-Steps g a = record { Place = BlocksOf; step = λ p. SameBut (OpenGates p.0 p.1 p.2 p.3) }

abbrev pub ghosts-seen_as-A-Steps : goal.ghosts-seen_as-A-Steps
ghosts-seen_as-A-Steps g a = record { Place = BlocksOf; step = λ p. SameBut (OpenGates p.0 p.1 p.2 p.3) }

abbrev pub ghosts-seen_as-B-Steps : goal.ghosts-seen_as-B-Steps
ghosts-seen_as-B-Steps g a = record { Place = Blocks; step = λ p. Closing p.0 p.1 p.2 }

abbrev pub invariant-loop-k : goal.invariant-loop-k
invariant-loop-k g l = record {
  run : Leaves g.D.Disk.now g.D.Disk.can_leave g.D.Disk.left_at l.fn.disk l.disk (SameBut (OpenGates l.region l.at l.k (g.D.Disk.image l.fn.disk)));
  torn : g.D.Disk.tells → SameBut (OpenGates l.region l.at l.k (g.D.Disk.image l.fn.disk)) (g.D.Disk.image l.fn.disk) (g.D.Disk.image l.disk);
  closed : g.D.Disk.tells → (k : ℕ) → k < l.k → ¬ (gate l.region (l.at + k) (g.D.Disk.image l.disk) ≡ 165);
  zeroed : g.D.Disk.tells → (k : ℕ) → k < l.k → gate l.region (l.at + k) (g.D.Disk.image l.disk) ≡ shut (gate l.region (l.at + k) (g.D.Disk.image l.fn.disk));
  sizes : (j : ℕ) → g.D.Disk.size l.disk j ≡ g.D.Disk.size l.fn.disk j;
  faults : g.D.Disk.fault_count l.fn.disk ≤ g.D.Disk.fault_count l.disk;
}
