use Rattle.gate_blocks.proofs.OneBlock.{block-page, body-page}
use Rattle.gate_blocks.proofs.laws.pages.Goals as goal

pub returns-clause-blocks : goal.returns-clause-blocks
returns-clause-blocks c = λ r s k m x chunks pages. block-page r s k m x chunks pages

pub returns-clause-bodies : goal.returns-clause-bodies
returns-clause-bodies c = λ r s k m x chunks pages. body-page r s k m x chunks pages
