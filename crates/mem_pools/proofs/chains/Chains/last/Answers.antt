use Rattle.std.proofs.Common.{◌<◌, ◌≡◌, ◌-◌, ◌∙◌, List, ℕ, length, get_or, arith, ap, sym}
use Rattle.mem_pools.specs.Linked.{Linked, list_at}
use Rattle.mem_pools.proofs.Linking.{seen_lt, seen_at, seen_count, last-lt, last_at}
use Rattle.mem_pools.specs.Links.{chain_of}
use Rattle.mem_pools.proofs.chains.Chains.last.Goals as goal

pub returns-clause-last : goal.returns-clause-last
returns-clause-last c =
    let v = c.self.inside in
    let e = c.index.result.now in
    let there = seen_lt v.next.items v.ends.items c.args.self.now c.args.chain c.self.view_is c.requires.there in
    let list = seen_at v.next.items v.ends.items c.args.self.now c.args.chain e c.self.view_is c.requires.there c.index.ensures in
    let count = seen_count v.next.items v.ends.items c.args.self.now c.args.chain e c.self.view_is c.requires.there c.index.ensures in
    let last = last_at v.next.items v.ends.items c.args.chain e c.self.invariant there c.index.ensures (omega (arith, c.requires.some, count)) in
    sym (ap (λ (xs : List ℕ). get_or xs (length (list_at c.args.self.now c.args.chain) - 1) 0) list ∙ ap (λ (n : ℕ). get_or (chain_of v.next.items e) (n - 1) 0) count ∙ last)

pub returns-clause-in_range : goal.returns-clause-in_range
returns-clause-in_range c =
    let v = c.self.inside in
    let e = c.index.result.now in
    let there = seen_lt v.next.items v.ends.items c.args.self.now c.args.chain c.self.view_is c.requires.there in
    let count = seen_count v.next.items v.ends.items c.args.self.now c.args.chain e c.self.view_is c.requires.there c.index.ensures in
    let lt = last-lt v.next.items v.ends.items c.args.chain e c.self.invariant there c.index.ensures (omega (arith, c.requires.some, count)) in
    let blocks = ap (λ (d : Linked). d.blocks) c.self.view_is in
    omega (arith, lt, blocks)
