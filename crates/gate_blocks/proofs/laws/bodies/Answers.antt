use Rattle.gate_blocks.proofs.Writes.{body-under_bodies, body-under_gates}
use Rattle.gate_blocks.proofs.laws.bodies.Goals as goal

pub returns-clause-staged : goal.returns-clause-staged
returns-clause-staged c = λ r at n x y step k out. body-under_bodies r at n k x y out step.elsewhere

pub returns-clause-opening : goal.returns-clause-opening
returns-clause-opening c = λ r at n x y step k. body-under_gates r at n k x y step.elsewhere

pub returns-clause-closing : goal.returns-clause-closing
returns-clause-closing c = λ r at n x y step k. body-under_gates r at n k x y step.elsewhere
