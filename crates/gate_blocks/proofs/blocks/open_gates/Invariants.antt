use Rattle.std.proofs.Common.{◌≡◌, ◌<◌, ◌≤◌, ◌+◌, ℕ}
use Rattle.ids_outside.specs.Images.{SameBut}
use Rattle.ids_outside.specs.Stops.{Leaves}
use Rattle.gate_blocks.specs.Gates.{gate, GatePlaces, Opening}
use Rattle.gate_blocks.proofs.Steps.{Blocks}
use Rattle.gate_blocks.proofs.blocks.open_gates.Given as goal

abbrev pub ghosts-started : goal.ghosts-started
ghosts-started g a = record { Place = Blocks; step = λ p. SameBut (GatePlaces p.0 p.1 p.2) }

abbrev pub ghosts-torn : goal.ghosts-torn
ghosts-torn g a = record { Place = Blocks; changed = λ p. GatePlaces p.0 p.1 p.2 }

abbrev pub ghosts-stays : goal.ghosts-stays
ghosts-stays g a = record { Place = Blocks; step = λ p. SameBut (GatePlaces p.0 p.1 p.2) }

abbrev pub ghosts-seen_as-A-Steps : goal.ghosts-seen_as-A-Steps
ghosts-seen_as-A-Steps g a = record { Place = Blocks; step = λ p. SameBut (GatePlaces p.0 p.1 p.2) }

abbrev pub ghosts-seen_as-B-Steps : goal.ghosts-seen_as-B-Steps
ghosts-seen_as-B-Steps g a = record { Place = Blocks; step = λ p. Opening p.0 p.1 p.2 }

abbrev pub invariant-loop-k : goal.invariant-loop-k
invariant-loop-k g l = record {
  run : Leaves g.D.Disk.now g.D.Disk.can_leave g.D.Disk.left_at l.fn.disk l.disk (SameBut (GatePlaces l.region l.at l.count));
  torn : SameBut (GatePlaces l.region l.at l.count) (g.D.Disk.image l.fn.disk) (g.D.Disk.image l.disk);
  written : g.D.Disk.tells → (k : ℕ) → k < l.k → gate l.region (l.at + k) (g.D.Disk.image l.disk) ≡ 165;
  sizes : (j : ℕ) → g.D.Disk.size l.disk j ≡ g.D.Disk.size l.fn.disk j;
  faults : g.D.Disk.fault_count l.fn.disk ≤ g.D.Disk.fault_count l.disk;
}
