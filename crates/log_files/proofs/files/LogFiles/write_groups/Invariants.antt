use Rattle.std.proofs.Common.{◌≡◌, ◌≤◌, ◌-◌, ℕ, length, take}
use Rattle.ids_outside.specs.Images.{SameBut}
use Rattle.gate_blocks.specs.Gates.{RegionPlaces}
use Rattle.log_files.specs.Moments.{Within}
use Rattle.log_files.specs.Files.{IsReady, Count, Grows, Appends, KeepsRetained, taken}
use Rattle.log_files.proofs.Steps.{News}
use Rattle.log_files.proofs.files.LogFiles.write_groups.Given as goal

abbrev pub ghosts-started : goal.ghosts-started
ghosts-started g a = record { Place = News; step = λ p. Grows p.0 p.1 }

abbrev pub ghosts-then-A-Steps : goal.ghosts-then-A-Steps
ghosts-then-A-Steps g a = record { Place = News; step = λ p. Grows p.0 p.1 }

abbrev pub ghosts-then-B-Steps : goal.ghosts-then-B-Steps
ghosts-then-B-Steps g a = record { Place = News; step = λ p. Grows p.0 p.1 }

abbrev pub ghosts-then-C-Steps : goal.ghosts-then-C-Steps
ghosts-then-C-Steps g a = record { Place = News; step = λ p. Grows p.0 p.1 }

abbrev pub ghosts-seen_as-A-Steps : goal.ghosts-seen_as-A-Steps
ghosts-seen_as-A-Steps g a = record { Place = News; step = λ p. Grows p.0 p.1 }

abbrev pub ghosts-seen_as-B-Steps : goal.ghosts-seen_as-B-Steps
ghosts-seen_as-B-Steps g a = record { Place = News; step = λ p. Appends p.0 p.1 }

-- the first bodies count, and a stop so far left some of them
abbrev pub invariant-loop-done : goal.invariant-loop-done
invariant-loop-done g l = record {
  within : l.done ≤ length l.bodies;
  files : l.files ≡ taken l.self l.done;
  ready : IsReady g.D.Disk l.files l.disk;
  kept : g.D.Disk.tells → KeepsRetained l.self (g.D.Disk.image l.fn.disk) (g.D.Disk.image l.disk);
  counted : g.D.Disk.tells → Count l.self.region l.self.next (take l.done l.bodies) (g.D.Disk.image l.disk);
  run : Within g.D.Disk l.fn.disk l.disk (Grows l.self (take l.done l.bodies));
  shown : g.D.Disk.tells → SameBut (RegionPlaces l.self.region) (g.D.Disk.image l.fn.disk) (g.D.Disk.image l.disk);
  sizes : (j : ℕ) → g.D.Disk.size l.disk j ≡ g.D.Disk.size l.fn.disk j;
  faults : g.D.Disk.fault_count l.fn.disk ≤ g.D.Disk.fault_count l.disk;
}

abbrev pub decreases-loop-done : goal.decreases-loop-done
decreases-loop-done g l = length l.bodies - l.done
