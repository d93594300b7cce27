use Rattle.gate_blocks.proofs.Regions.{block-apart, body-apart}
use Rattle.gate_blocks.proofs.laws.apart.Goals as goal

pub returns-clause-blocks : goal.returns-clause-blocks
returns-clause-blocks c = λ r s x y away same. block-apart r s x y away same

pub returns-clause-bodies : goal.returns-clause-bodies
returns-clause-bodies c = λ r s x y away same. body-apart r s x y away same
