use Rattle.log_records.proofs.Sizes.{length-entry_bytes}
use Rattle.log_records.proofs.laws.sizes_are_lengths.Goals as goal

pub returns : goal.returns
returns c = length-entry_bytes
