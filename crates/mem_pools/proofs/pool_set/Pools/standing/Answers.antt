use Rattle.std.proofs.Common.{◌∙◌, List, Option, ap, sym, drop, is_some}
use Rattle.std.specs.List.{count_by}
use Rattle.mem_pools.specs.Pooled.{Kept, standing}
use Rattle.mem_pools.specs.declared.pool_set.Slot.{Slot}
use Rattle.mem_pools.proofs.Keeping.{standing-pools_of, chains_count}
use Rattle.mem_pools.proofs.pool_set.Pools.standing.Goals as goal

pub returns : goal.returns
returns c =
    let v = c.self.inside in
    c.standing_in.ensures ∙ ap (λ (l : List (Option Slot)). count_by (λ s. is_some s) l) c.deref.ensures.value
    ∙ sym (standing-pools_of v.blocks.items v.slots.items (drop 1 v.chains.lists) (chains_count v.slots.items v.chains v.blocks.items c.self.invariant))
    ∙ ap (λ (x : Kept). standing x.pools) c.self.view_is
