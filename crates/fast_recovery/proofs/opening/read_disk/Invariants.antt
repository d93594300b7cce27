use Rattle.std.proofs.Common.{◌≡◌}
use Rattle.fast_recovery.proofs.opening.read_disk.Given as goal

abbrev pub ghosts-started : goal.ghosts-started
ghosts-started g a = record { Place = Unit {0}; step = λ p x y. y ≡ x }

abbrev pub ghosts-stays : goal.ghosts-stays
ghosts-stays g a = record { Place = Unit {0}; step = λ p x y. y ≡ x }

abbrev pub ghosts-then-A-Steps : goal.ghosts-then-A-Steps
ghosts-then-A-Steps g a = record { Place = Unit {0}; step = λ p x y. y ≡ x }

abbrev pub ghosts-then-B-Steps : goal.ghosts-then-B-Steps
ghosts-then-B-Steps g a = record { Place = Unit {0}; step = λ p x y. y ≡ x }

abbrev pub ghosts-then-C-Steps : goal.ghosts-then-C-Steps
ghosts-then-C-Steps g a = record { Place = Unit {0}; step = λ p x y. y ≡ x }
