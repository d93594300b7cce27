use Rattle.std.proofs.Common.{◌≡◌, ◌<◌, ◌∙◌, List, Option, None, IsSome, length, get_or, ap, sym, subst, arith, drop}
use Rattle.mem_pools.specs.Pooled.{Kept, standing}
use Rattle.mem_pools.specs.declared.pool_set.Slot.{Slot}
use Rattle.mem_pools.proofs.Keeping.{standing-pools_of, seen_len, seen_pool, pooled_none, taken_stands, chains_count}
use Rattle.mem_pools.proofs.Steps.{made}
use Rattle.mem_pools.proofs.pool_set.Pools.new_pool.Goals as goal

pub vacant-pool-requires : goal.vacant-pool-requires
vacant-pool-requires c =
    let v = c.self.inside in
    let k = c.self.invariant in
    let same = ap (λ (x : Kept). standing x.pools) (sym c.self.view_is) ∙ standing-pools_of v.blocks.items v.slots.items (drop 1 v.chains.lists) (chains_count v.slots.items v.chains v.blocks.items k) in
    let len = seen_len v.blocks.items v.slots.items v.chains c.args.self.now k c.self.view_is in
    rw c.deref.ensures.value (omega (arith, c.requires, same, len))

pub invariant_of-self : goal.invariant_of-self
invariant_of-self c =
    let v = c.self.inside in
    let i = c.vacant-pool.result in
    let none : get_or v.slots.items i None ≡ None = ap (λ (l : List (Option Slot)). get_or l i None) (sym c.deref.ensures.value) ∙ c.vacant-pool.ensures.vacant in
    let there : i < length v.slots.items = omega (arith, ap length c.deref.ensures.value, c.vacant-pool.ensures.in_range) in
    (made v.blocks.items v.slots.items v.chains c.pour.new.self c.args.self.now i c.args.owner c.self.invariant c.self.view_is there none (omega (arith, c.free.ensures.free)) c.pour.ensures.poured c.pour.ensures.owned).0

pub returns-clause-vacant : goal.returns-clause-vacant
returns-clause-vacant c =
    let v = c.self.inside in
    let i = c.vacant-pool.result in
    let none : get_or v.slots.items i None ≡ None = ap (λ (l : List (Option Slot)). get_or l i None) (sym c.deref.ensures.value) ∙ c.vacant-pool.ensures.vacant in
    let there : i < length v.slots.items = omega (arith, ap length c.deref.ensures.value, c.vacant-pool.ensures.in_range) in
    let len = seen_len v.blocks.items v.slots.items v.chains c.args.self.now c.self.invariant c.self.view_is in
    (omega (arith, len, there), seen_pool v.blocks.items v.slots.items v.chains c.args.self.now i None c.self.invariant c.self.view_is there ∙ pooled_none v.blocks.items _ _ none)

pub returns-clause-least : goal.returns-clause-least
returns-clause-least c =
    let v = c.self.inside in
    let len = ap length c.deref.ensures.value in
    λ i h. taken_stands v.blocks.items v.slots.items v.chains c.args.self.now i c.self.invariant c.self.view_is (omega (arith, len, h, c.vacant-pool.ensures.in_range)) (subst (λ (l : List (Option Slot)). IsSome (get_or l i None)) c.deref.ensures.value (c.vacant-pool.ensures.least i h))

pub returns-clause-made : goal.returns-clause-made
returns-clause-made c =
    let v = c.self.inside in
    let i = c.vacant-pool.result in
    let none : get_or v.slots.items i None ≡ None = ap (λ (l : List (Option Slot)). get_or l i None) (sym c.deref.ensures.value) ∙ c.vacant-pool.ensures.vacant in
    let there : i < length v.slots.items = omega (arith, ap length c.deref.ensures.value, c.vacant-pool.ensures.in_range) in
    (made v.blocks.items v.slots.items v.chains c.pour.new.self c.args.self.now i c.args.owner c.self.invariant c.self.view_is there none (omega (arith, c.free.ensures.free)) c.pour.ensures.poured c.pour.ensures.owned).1
