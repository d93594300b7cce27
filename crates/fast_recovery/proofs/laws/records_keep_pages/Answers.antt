use Rattle.fast_recovery.proofs.Paging.{paged-step}
use Rattle.fast_recovery.proofs.laws.records_keep_pages.Goals as goal

pub returns : goal.returns
returns c = λ pages s e paged placed ranges. paged-step pages s e paged placed ranges
