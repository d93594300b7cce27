use Rattle.std.proofs.Common.{◌≡◌, ◌<◌, ◌+◌, ◌∙◌, List, [], ◌++◌, ℕ, length, get_or, take, drop, ap, sym, arith, add-one}
use Rattle.std.proofs.lemmas.List.{get_or_default, take_all}
use Rattle.std.proofs.lemmas.List.Concat.{flat_map-append}
use Rattle.mem_pools.specs.Linked.{list_at}
use Rattle.mem_pools.specs.Slots.{block_at, content}
use Rattle.mem_pools.proofs.Standing.{slot_of, stands, chained-lt, content-more}
use Rattle.mem_pools.proofs.pool_set.Pools.bytes.Goals as goal
use Rattle.mem_pools.proofs.pool_set.Pools.bytes.Goals.{then-k-count, else-k-count}

pub len-count-requires : goal.len-count-requires
len-count-requires c =
    let v = c.self.inside in
    let slot = slot_of v.blocks.items v.slots.items v.chains c.args.self.now c.args.pool c.self.invariant c.self.view_is c.requires in
    (stands v.blocks.items v.slots.items v.chains c.args.self.now c.args.pool slot.0 c.self.invariant c.self.view_is c.requires slot.1).chain_there

pub first-block-requires-clause-there : goal.first-block-requires-clause-there
first-block-requires-clause-there c =
    let v = c.self.inside in
    let slot = slot_of v.blocks.items v.slots.items v.chains c.args.self.now c.args.pool c.self.invariant c.self.view_is c.requires in
    (stands v.blocks.items v.slots.items v.chains c.args.self.now c.args.pool slot.0 c.self.invariant c.self.view_is c.requires slot.1).chain_there

pub first-block-requires-clause-some : goal.first-block-requires-clause-some
first-block-requires-clause-some c =
    let v = c.self.inside in
    let slot = slot_of v.blocks.items v.slots.items v.chains c.args.self.now c.args.pool c.self.invariant c.self.view_is c.requires in
    let s = stands v.blocks.items v.slots.items v.chains c.args.self.now c.args.pool slot.0 c.self.invariant c.self.view_is c.requires slot.1 in
    omega (arith, s.count)

pub loop-k-init : goal.loop-k-init
loop-k-init c = record {
  copied = c.new-out.ensures.items;
  next = λ h. ap (λ (xs : List ℕ). get_or xs 0 0) c.first-block.ensures.first;
}

pub index-requires : goal.index-requires
index-requires c =
    let v = c.self.inside in
    let slot = slot_of v.blocks.items v.slots.items v.chains c.args.self.now c.args.pool c.self.invariant c.self.view_is c.requires in
    let s = stands v.blocks.items v.slots.items v.chains c.args.self.now c.args.pool slot.0 c.self.invariant c.self.view_is c.requires slot.1 in
    omega (arith, c.loop-k.invariant.next c.loop-k-test.true, c.self.invariant.numbered, chained-lt v.chains (c.args.pool + 1) c.loop-k.k c.self.invariant.owned s.chain_there (omega (arith, c.len-count.ensures, c.loop-k-test.true)))

pub next-block-requires : goal.next-block-requires
next-block-requires c =
    let v = c.self.inside in
    let slot = slot_of v.blocks.items v.slots.items v.chains c.args.self.now c.args.pool c.self.invariant c.self.view_is c.requires in
    let s = stands v.blocks.items v.slots.items v.chains c.args.self.now c.args.pool slot.0 c.self.invariant c.self.view_is c.requires slot.1 in
    omega (arith, c.loop-k.invariant.next c.loop-k-test.true, chained-lt v.chains (c.args.pool + 1) c.loop-k.k c.self.invariant.owned s.chain_there (omega (arith, c.len-count.ensures, c.loop-k-test.true)))

pub loop-k-preserved : goal.loop-k-preserved
loop-k-preserved c =
    let v = c.self.inside in
    let l = list_at v.chains (c.args.pool + 1) in
    let slot = slot_of v.blocks.items v.slots.items v.chains c.args.self.now c.args.pool c.self.invariant c.self.view_is c.requires in
    let s = stands v.blocks.items v.slots.items v.chains c.args.self.now c.args.pool slot.0 c.self.invariant c.self.view_is c.requires slot.1 in
    let here : get_or l c.loop-k.k 0 ≡ c.loop-k.block = c.loop-k.invariant.next c.loop-k-test.true in
    let in_range : c.loop-k.block < length v.blocks.items = omega (arith, here, c.self.invariant.numbered, chained-lt v.chains (c.args.pool + 1) c.loop-k.k c.self.invariant.owned s.chain_there (omega (arith, c.len-count.ensures, c.loop-k-test.true))) in
    let block : c.index.result.now ≡ get_or v.blocks.items (get_or l c.loop-k.k 0) [] = c.index.ensures ∙ get_or_default v.blocks.items c.loop-k.block c.index.result.now [] in_range ∙ ap (λ (n : ℕ). get_or v.blocks.items n []) (sym here) in
    record {
      copied = c.in_ok-extend_from_slice.ensures.items ∙ ap (λ (xs : List ℕ). xs ++ c.index.result.now) c.loop-k.invariant.copied ∙ ap (λ (xs : List ℕ). content v.blocks.items (take c.loop-k.k l) ++ xs) block ∙ sym (content-more v.blocks.items l c.loop-k.k (omega (arith, c.len-count.ensures, c.loop-k-test.true)));
      next = λ h. elim c.if-k-count.branch [
        | then-k-count w ↦ w.next-block.ensures (c.args.pool + 1) c.loop-k.k s.chain_there (omega (arith, h, c.len-count.ensures)) here ∙ sym w.block-is
        | else-k-count w ↦ absurd (omega arith)
      ];
    }

pub returns : goal.returns
returns c =
    let v = c.self.inside in
    let l = list_at v.chains (c.args.pool + 1) in
    let slot = slot_of v.blocks.items v.slots.items v.chains c.args.self.now c.args.pool c.self.invariant c.self.view_is c.requires in
    let s = stands v.blocks.items v.slots.items v.chains c.args.self.now c.args.pool slot.0 c.self.invariant c.self.view_is c.requires slot.1 in
    let all : content v.blocks.items (take c.loop-k.k l) ≡ content v.blocks.items l = ap (content v.blocks.items) (take_all c.loop-k.k l (omega (arith, c.len-count.ensures, c.loop-k-test.false))) in
    c.truncate.ensures.items ∙ ap (λ (xs : List ℕ). take c.len.result xs) (c.loop-k.invariant.copied ∙ all) ∙ ap (λ (n : ℕ). take n (content v.blocks.items l)) (c.len.ensures ∙ s.len) ∙ sym s.bytes
