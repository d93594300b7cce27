use Rattle.std.proofs.Common.{◌≡◌, ◌∙◌, length, sym, ap, arith}
use Rattle.mem_pools.specs.Pooled.{bytes_of, blocks_for}
use Rattle.mem_pools.proofs.Standing.{slot_of, stands}
use Rattle.mem_pools.proofs.pool_set.Pools.blocks.Goals as goal

pub len-requires : goal.len-requires
len-requires c =
    let v = c.self.inside in
    let slot = slot_of v.blocks.items v.slots.items v.chains c.args.self.now c.args.pool c.self.invariant c.self.view_is c.requires in
    (stands v.blocks.items v.slots.items v.chains c.args.self.now c.args.pool slot.0 c.self.invariant c.self.view_is c.requires slot.1).chain_there

pub returns-clause-chain : goal.returns-clause-chain
returns-clause-chain c =
    let v = c.self.inside in
    let slot = slot_of v.blocks.items v.slots.items v.chains c.args.self.now c.args.pool c.self.invariant c.self.view_is c.requires in
    let s = stands v.blocks.items v.slots.items v.chains c.args.self.now c.args.pool slot.0 c.self.invariant c.self.view_is c.requires slot.1 in
    c.len.ensures ∙ ap length (sym s.chain)

pub returns-clause-filled : goal.returns-clause-filled
returns-clause-filled c =
    let v = c.self.inside in
    let slot = slot_of v.blocks.items v.slots.items v.chains c.args.self.now c.args.pool c.self.invariant c.self.view_is c.requires in
    let s = stands v.blocks.items v.slots.items v.chains c.args.self.now c.args.pool slot.0 c.self.invariant c.self.view_is c.requires slot.1 in
    c.len.ensures ∙ s.count ∙ ap blocks_for (sym s.len)
