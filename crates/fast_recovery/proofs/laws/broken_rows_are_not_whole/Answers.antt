use Rattle.fast_recovery.proofs.Broken.{not_broken}
use Rattle.fast_recovery.proofs.laws.broken_rows_are_not_whole.Goals as goal

pub returns : goal.returns
returns c = λ own slots row broken whole. not_broken own slots row whole broken
