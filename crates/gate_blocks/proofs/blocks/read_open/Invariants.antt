use Rattle.std.proofs.Common.{◌≡◌}
use Rattle.gate_blocks.proofs.blocks.read_open.Given as goal

abbrev pub ghosts-started : goal.ghosts-started
ghosts-started g a = record { Place = Unit {0}; step = λ p x y. y ≡ x }

abbrev pub ghosts-stays : goal.ghosts-stays
ghosts-stays g a = record { Place = Unit {0}; step = λ p x y. y ≡ x }
