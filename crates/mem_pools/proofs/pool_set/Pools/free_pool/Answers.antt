use Rattle.std.proofs.Common.{◌≡◌, ◌+◌, ◌∙◌, ℕ, ap, arith}
use Rattle.mem_pools.specs.Linked.{poured}
use Rattle.mem_pools.proofs.Standing.{slot_of, stands}
use Rattle.mem_pools.proofs.Steps.{ended}
use Rattle.mem_pools.proofs.pool_set.Pools.free_pool.Goals as goal

pub len-requires : goal.len-requires
len-requires c =
    let v = c.self.inside in
    let slot = slot_of v.blocks.items v.slots.items v.chains c.args.self.now c.args.pool c.self.invariant c.self.view_is c.requires in
    (stands v.blocks.items v.slots.items v.chains c.args.self.now c.args.pool slot.0 c.self.invariant c.self.view_is c.requires slot.1).chain_there

pub pour-requires-clause-from_there : goal.pour-requires-clause-from_there
pour-requires-clause-from_there c =
    let v = c.self.inside in
    let slot = slot_of v.blocks.items v.slots.items v.chains c.args.self.now c.args.pool c.self.invariant c.self.view_is c.requires in
    (stands v.blocks.items v.slots.items v.chains c.args.self.now c.args.pool slot.0 c.self.invariant c.self.view_is c.requires slot.1).chain_there

pub index_mut-requires : goal.index_mut-requires
index_mut-requires c =
    let v = c.self.inside in
    let slot = slot_of v.blocks.items v.slots.items v.chains c.args.self.now c.args.pool c.self.invariant c.self.view_is c.requires in
    omega (arith, (stands v.blocks.items v.slots.items v.chains c.args.self.now c.args.pool slot.0 c.self.invariant c.self.view_is c.requires slot.1).there)

pub invariant_of-self : goal.invariant_of-self
invariant_of-self c =
    let v = c.self.inside in
    let slot = slot_of v.blocks.items v.slots.items v.chains c.args.self.now c.args.pool c.self.invariant c.self.view_is c.requires in
    let s = stands v.blocks.items v.slots.items v.chains c.args.self.now c.args.pool slot.0 c.self.invariant c.self.view_is c.requires slot.1 in
    (ended v.blocks.items v.slots.items v.chains c.pour.new.self c.args.self.now c.args.pool slot.0 c.self.invariant c.self.view_is s (c.pour.ensures.poured ∙ ap (λ (n : ℕ). poured v.chains (c.args.pool + 1) 0 n) c.len.ensures) c.pour.ensures.owned).0

pub returns : goal.returns
returns c =
    let v = c.self.inside in
    let slot = slot_of v.blocks.items v.slots.items v.chains c.args.self.now c.args.pool c.self.invariant c.self.view_is c.requires in
    let s = stands v.blocks.items v.slots.items v.chains c.args.self.now c.args.pool slot.0 c.self.invariant c.self.view_is c.requires slot.1 in
    (ended v.blocks.items v.slots.items v.chains c.pour.new.self c.args.self.now c.args.pool slot.0 c.self.invariant c.self.view_is s (c.pour.ensures.poured ∙ ap (λ (n : ℕ). poured v.chains (c.args.pool + 1) 0 n) c.len.ensures) c.pour.ensures.owned).1
