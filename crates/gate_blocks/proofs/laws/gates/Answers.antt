use Rattle.gate_blocks.proofs.OneBlock.{block-open, block-closed, length-body}
use Rattle.gate_blocks.proofs.laws.gates.Goals as goal

pub returns-clause-open : goal.returns-clause-open
returns-clause-open c = λ r k x is. block-open r k x is

pub returns-clause-closed : goal.returns-clause-closed
returns-clause-closed c = λ r k x shut. block-closed r k x shut

pub returns-clause-whole : goal.returns-clause-whole
returns-clause-whole c = λ r k x. length-body r k x
