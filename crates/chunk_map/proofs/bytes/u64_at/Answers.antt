use Rattle.std.proofs.Common.{◌∙◌}
use Rattle.chunk_map.proofs.Numbers.{number_of_eight}
use Rattle.chunk_map.proofs.bytes.u64_at.Goals as goal

pub returns : goal.returns
returns c = λ front rest n fits long is. c.from_be_bytes.ensures ∙ number_of_eight front rest n c.args.at c.args.body.now fits long is
