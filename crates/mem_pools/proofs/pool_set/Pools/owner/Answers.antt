use Rattle.std.proofs.Common.{◌<◌, ◌≡◌, sym, arith}
use Rattle.mem_pools.proofs.Keeping.{stands_lt, stands_not_none}
use Rattle.mem_pools.proofs.Standing.{slot_read, stands}
use Rattle.mem_pools.proofs.pool_set.Pools.owner.Goals as goal

pub index-requires : goal.index-requires
index-requires c =
    let v = c.self.inside in
    omega (arith, stands_lt v.blocks.items v.slots.items v.chains c.args.self.now c.args.pool c.self.invariant c.self.view_is c.requires)

pub unreachable-requires : goal.unreachable-requires
unreachable-requires c =
    let v = c.self.inside in
    stands_not_none v.blocks.items v.slots.items v.chains c.args.self.now c.args.pool c.index.result.now c.self.invariant c.self.view_is c.requires c.index.ensures c.in_default.is

pub returns : goal.returns
returns c =
    let v = c.self.inside in
    let there = stands_lt v.blocks.items v.slots.items v.chains c.args.self.now c.args.pool c.self.invariant c.self.view_is c.requires in
    let slot = slot_read v.slots.items c.args.pool c.index.result.now c.in-Some.slot there c.index.ensures c.in-Some.is in
    sym (stands v.blocks.items v.slots.items v.chains c.args.self.now c.args.pool c.in-Some.slot c.self.invariant c.self.view_is c.requires slot).owner
