use Rattle.std.proofs.Common.{◌<◌, ◌≡◌, length, arith, ap}
use Rattle.mem_pools.specs.Linked.{Linked}
use Rattle.mem_pools.proofs.Linking.{seen_lt, seen_at, seen_count, first-lt, starts_first}
use Rattle.mem_pools.proofs.chains.Chains.first.Goals as goal

pub returns-clause-first : goal.returns-clause-first
returns-clause-first c =
    let v = c.self.inside in
    let e = c.index.result.now in
    starts_first v.next.items v.ends.items c.args.self.now c.args.chain e c.self.view_is c.requires.there c.index.ensures c.requires.some

pub returns-clause-in_range : goal.returns-clause-in_range
returns-clause-in_range c =
    let v = c.self.inside in
    let e = c.index.result.now in
    let there = seen_lt v.next.items v.ends.items c.args.self.now c.args.chain c.self.view_is c.requires.there in
    let count = seen_count v.next.items v.ends.items c.args.self.now c.args.chain e c.self.view_is c.requires.there c.index.ensures in
    let lt = first-lt v.next.items v.ends.items c.args.chain e c.self.invariant there c.index.ensures (omega (arith, c.requires.some, count)) in
    let blocks = ap (λ (d : Linked). d.blocks) c.self.view_is in
    omega (arith, lt, blocks)
