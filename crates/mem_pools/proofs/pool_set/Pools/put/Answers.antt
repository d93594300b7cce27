use Rattle.std.proofs.Common.{◌≡◌, ◌<◌, ◌≤◌, ◌+◌, ◌%◌, ◌-◌, ◌++◌, ◌∙◌, List, [], ℕ, Option, None, Some, length, get_or, take, drop, ap, sym, arith, subst, length-append}
use Rattle.std.proofs.lemmas.List.{get_or_default, length-take-le}
use Rattle.std.proofs.Math.ListN.{set}
use Rattle.mem_pools.specs.Linked.{Linked, list_at, poured}
use Rattle.mem_pools.specs.Pooled.{Kept, wanted, appended}
use Rattle.mem_pools.specs.Slots.{IsKept, kept_of}
use Rattle.mem_pools.specs.declared.pool_set.Slot.{Slot}
use Rattle.mem_pools.proofs.Pouring.{length-poured, to-poured}
use Rattle.mem_pools.proofs.Keeping.{stands_lt, stands_not_none}
use Rattle.mem_pools.proofs.Standing.{Stands, slot_of, slot_read, stands}
use Rattle.mem_pools.proofs.Steps.{put}
use Rattle.mem_pools.proofs.pool_set.Pools.put.Goals as goal

pub index-requires : goal.index-requires
index-requires c =
    let v = c.self.inside in
    omega (arith, stands_lt v.blocks.items v.slots.items v.chains c.args.self.now c.args.pool c.self.invariant c.self.view_is c.requires.stands)

pub unreachable-requires : goal.unreachable-requires
unreachable-requires c =
    let v = c.self.inside in
    stands_not_none v.blocks.items v.slots.items v.chains c.args.self.now c.args.pool c.index.result.now c.self.invariant c.self.view_is c.requires.stands c.index.ensures c.in_default.is

pub pour-requires-clause-to_there : goal.pour-requires-clause-to_there
pour-requires-clause-to_there c =
    let v = c.self.inside in
    let slot = slot_of v.blocks.items v.slots.items v.chains c.args.self.now c.args.pool c.self.invariant c.self.view_is c.requires.stands in
    (stands v.blocks.items v.slots.items v.chains c.args.self.now c.args.pool slot.0 c.self.invariant c.self.view_is c.requires.stands slot.1).chain_there

pub last-last-requires-clause-there : goal.last-last-requires-clause-there
last-last-requires-clause-there c =
    let v = c.self.inside in
    let slot = slot_of v.blocks.items v.slots.items v.chains c.args.self.now c.args.pool c.self.invariant c.self.view_is c.requires.stands in
    let s = stands v.blocks.items v.slots.items v.chains c.args.self.now c.args.pool slot.0 c.self.invariant c.self.view_is c.requires.stands slot.1 in
    omega (arith, s.chain_there, ap (λ (d : Linked). length d.lists) c.pour.ensures.poured, length-poured v.chains 0 (c.args.pool + 1) c.wanted-wanted.result)

pub last-last-requires-clause-some : goal.last-last-requires-clause-some
last-last-requires-clause-some c =
    let v = c.self.inside in
    let slot = slot_of v.blocks.items v.slots.items v.chains c.args.self.now c.args.pool c.self.invariant c.self.view_is c.requires.stands in
    let s = stands v.blocks.items v.slots.items v.chains c.args.self.now c.args.pool slot.0 c.self.invariant c.self.view_is c.requires.stands slot.1 in
    let l = list_at v.chains (c.args.pool + 1) in
    let more = take c.wanted-wanted.result (list_at v.chains 0) in
    let is = ap (λ (d : Linked). length (list_at d (c.args.pool + 1))) c.pour.ensures.poured ∙ ap length (to-poured v.chains 0 (c.args.pool + 1) c.wanted-wanted.result s.chain_there) in
    omega (arith, is, length-append l more, s.count)

pub fill-requires : goal.fill-requires
fill-requires c =
    let v = c.self.inside in
    let there = stands_lt v.blocks.items v.slots.items v.chains c.args.self.now c.args.pool c.self.invariant c.self.view_is c.requires.stands in
    let slot = slot_read v.slots.items c.args.pool c.index.result.now c.in-Some.slot there c.index.ensures c.in-Some.is in
    let s = stands v.blocks.items v.slots.items v.chains c.args.self.now c.args.pool c.in-Some.slot c.self.invariant c.self.view_is c.requires.stands slot in
    rw s.len at c.requires.fits

pub overflow_add-slot : goal.overflow_add-slot
overflow_add-slot c =
    let v = c.self.inside in
    let there = stands_lt v.blocks.items v.slots.items v.chains c.args.self.now c.args.pool c.self.invariant c.self.view_is c.requires.stands in
    let slot = slot_read v.slots.items c.args.pool c.index.result.now c.in-Some.slot there c.index.ensures c.in-Some.is in
    let s = stands v.blocks.items v.slots.items v.chains c.args.self.now c.args.pool c.in-Some.slot c.self.invariant c.self.view_is c.requires.stands slot in
    omega (arith, s.most, c.self.invariant.owned.small, c.requires.fits)

pub index_mut-requires-2 : goal.index_mut-requires-2
index_mut-requires-2 c =
    let v = c.self.inside in
    omega (arith, stands_lt v.blocks.items v.slots.items v.chains c.args.self.now c.args.pool c.self.invariant c.self.view_is c.requires.stands)

pub invariant_of-self : goal.invariant_of-self
invariant_of-self c =
    let v = c.self.inside in
    let there = stands_lt v.blocks.items v.slots.items v.chains c.args.self.now c.args.pool c.self.invariant c.self.view_is c.requires.stands in
    let slot = slot_read v.slots.items c.args.pool c.index.result.now c.in-Some.slot there c.index.ensures c.in-Some.is in
    let s = stands v.blocks.items v.slots.items v.chains c.args.self.now c.args.pool c.in-Some.slot c.self.invariant c.self.view_is c.requires.stands slot in
    let in_range : c.last-last.result < length v.blocks.items = omega (arith, c.last-last.ensures.in_range, ap (λ (d : Linked). d.blocks) c.pour.ensures.poured, c.self.invariant.numbered) in
    let old = c.index_mut.ensures.value ∙ get_or_default v.blocks.items c.last-last.result c.index_mut.result.now [] in_range in
    let written = c.fill.ensures ∙ ap (λ (xs : List ℕ). take (c.in-Some.slot.len % 2048) xs ++ (c.args.piece.now ++ drop (c.in-Some.slot.len % 2048 + length c.args.piece.now) xs)) old in
    (put v.blocks.items v.slots.items v.chains c.pour.new.self c.args.self.now c.args.pool c.in-Some.slot c.args.piece.now c.fill.new.block c.last-last.result c.self.invariant c.self.view_is s c.requires.some (rw s.len at c.requires.fits) c.requires.room (c.pour.ensures.poured ∙ ap (λ (n : ℕ). poured v.chains 0 (c.args.pool + 1) n) c.wanted-wanted.ensures.wanted) c.pour.ensures.owned c.last-last.ensures.last written).0

pub returns : goal.returns
returns c =
    let v = c.self.inside in
    let there = stands_lt v.blocks.items v.slots.items v.chains c.args.self.now c.args.pool c.self.invariant c.self.view_is c.requires.stands in
    let slot = slot_read v.slots.items c.args.pool c.index.result.now c.in-Some.slot there c.index.ensures c.in-Some.is in
    let s = stands v.blocks.items v.slots.items v.chains c.args.self.now c.args.pool c.in-Some.slot c.self.invariant c.self.view_is c.requires.stands slot in
    let in_range : c.last-last.result < length v.blocks.items = omega (arith, c.last-last.ensures.in_range, ap (λ (d : Linked). d.blocks) c.pour.ensures.poured, c.self.invariant.numbered) in
    let old = c.index_mut.ensures.value ∙ get_or_default v.blocks.items c.last-last.result c.index_mut.result.now [] in_range in
    let written = c.fill.ensures ∙ ap (λ (xs : List ℕ). take (c.in-Some.slot.len % 2048) xs ++ (c.args.piece.now ++ drop (c.in-Some.slot.len % 2048 + length c.args.piece.now) xs)) old in
    (put v.blocks.items v.slots.items v.chains c.pour.new.self c.args.self.now c.args.pool c.in-Some.slot c.args.piece.now c.fill.new.block c.last-last.result c.self.invariant c.self.view_is s c.requires.some (rw s.len at c.requires.fits) c.requires.room (c.pour.ensures.poured ∙ ap (λ (n : ℕ). poured v.chains 0 (c.args.pool + 1) n) c.wanted-wanted.ensures.wanted) c.pour.ensures.owned c.last-last.ensures.last written).1
