use Rattle.ids_outside.specs.Images.{SameBut}
use Rattle.gate_blocks.specs.Gates.{OpenGate}
use Rattle.gate_blocks.proofs.Steps.{BlockOf}
use Rattle.gate_blocks.proofs.blocks.close_gate.Given as goal

abbrev pub ghosts-started : goal.ghosts-started
ghosts-started g a = record { Place = BlockOf; step = λ p. SameBut (OpenGate p.0 p.1 p.2) }

abbrev pub ghosts-stays : goal.ghosts-stays
ghosts-stays g a = record { Place = BlockOf; step = λ p. SameBut (OpenGate p.0 p.1 p.2) }

abbrev pub ghosts-goes_on : goal.ghosts-goes_on
ghosts-goes_on g a = record { Place = BlockOf; step = λ p. SameBut (OpenGate p.0 p.1 p.2) }
