use Rattle.std.proofs.Common.{sym}
use Rattle.mem_pools.proofs.Linking.{seen_count}
use Rattle.mem_pools.proofs.chains.Chains.len.Goals as goal

pub returns : goal.returns
returns c = sym (seen_count _ _ _ _ _ c.self.view_is c.requires c.index.ensures)
