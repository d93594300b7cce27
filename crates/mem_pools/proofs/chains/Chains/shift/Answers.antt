use Rattle.std.proofs.Common.{◌<◌, ◌≡◌, ◌≢◌, ◌+◌, ◌-◌, ◌∙◌, List, ℕ, length, get_or, arith, ap, sym, refl}
use Rattle.std.proofs.lemmas.List.{get_or_read}
use Rattle.mem_pools.specs.Linked.{Linked}
use Rattle.mem_pools.proofs.Linking.{seen_lt, seen_count, first-lt, last-lt, count-lt, shift-empty, shift-behind, each_once}
use Rattle.mem_pools.proofs.chains.Chains.shift.Goals as goal

pub overflow_cast-moved : goal.overflow_cast-moved
overflow_cast-moved c =
    let v = c.self.inside in
    let e = c.index-source.result.now in
    let there = seen_lt v.next.items v.ends.items c.args.self.now c.args.from c.self.view_is c.requires.from_there in
    let count = seen_count v.next.items v.ends.items c.args.self.now c.args.from e c.self.view_is c.requires.from_there c.index-source.ensures in
    omega (arith, c.self.invariant.small, first-lt v.next.items v.ends.items c.args.from e c.self.invariant there c.index-source.ensures (omega (arith, c.requires.some, count)))

pub index-requires : goal.index-requires
index-requires c =
    let v = c.self.inside in
    let e = c.index-source.result.now in
    let there = seen_lt v.next.items v.ends.items c.args.self.now c.args.from c.self.view_is c.requires.from_there in
    let count = seen_count v.next.items v.ends.items c.args.self.now c.args.from e c.self.view_is c.requires.from_there c.index-source.ensures in
    omega (arith, first-lt v.next.items v.ends.items c.args.from e c.self.invariant there c.index-source.ensures (omega (arith, c.requires.some, count)))

pub index_mut-requires-else-target-eq0 : goal.index_mut-requires-else-target-eq0
index_mut-requires-else-target-eq0 c =
    let v = c.self.inside in
    let f = c.index-target.result.now in
    let there = seen_lt v.next.items v.ends.items c.args.self.now c.args.to c.self.view_is c.requires.to_there in
    omega (arith, last-lt v.next.items v.ends.items c.args.to f c.self.invariant there c.index-target.ensures (omega arith))

pub overflow_add-target : goal.overflow_add-target
overflow_add-target c =
    let v = c.self.inside in
    let e = c.index-source.result.now in
    let f = c.index-target.result.now in
    let from_there = seen_lt v.next.items v.ends.items c.args.self.now c.args.from c.self.view_is c.requires.from_there in
    let to_there = seen_lt v.next.items v.ends.items c.args.self.now c.args.to c.self.view_is c.requires.to_there in
    let count = seen_count v.next.items v.ends.items c.args.self.now c.args.from e c.self.view_is c.requires.from_there c.index-source.ensures in
    omega (arith, c.self.invariant.small, c.requires.some, count, count-lt v.next.items v.ends.items c.args.from c.args.to e f c.self.invariant from_there to_there c.requires.apart c.index-source.ensures c.index-target.ensures)

pub invariant_of-self : goal.invariant_of-self
invariant_of-self c =
    let v = c.self.inside in
    (shift-empty v.next.items v.ends.items c.args.self.now c.args.from c.args.to c.index-source.result.now c.index-target.result.now c.index.result.now c.self.invariant c.self.view_is c.requires.from_there c.requires.to_there c.requires.apart c.index-source.ensures c.index-target.ensures c.requires.some c.if-target-eq0.true c.index.ensures).0

pub returns-then-target-eq0 : goal.returns-then-target-eq0
returns-then-target-eq0 c =
    let v = c.self.inside in
    let both = (shift-empty v.next.items v.ends.items c.args.self.now c.args.from c.args.to c.index-source.result.now c.index-target.result.now c.index.result.now c.self.invariant c.self.view_is c.requires.from_there c.requires.to_there c.requires.apart c.index-source.ensures c.index-target.ensures c.requires.some c.if-target-eq0.true c.index.ensures) in
    record { shifted = both.1; owned = each_once _ _ _ both.0 refl }

pub invariant_of-self-else-target-eq0 : goal.invariant_of-self-else-target-eq0
invariant_of-self-else-target-eq0 c =
    let v = c.self.inside in
    (shift-behind v.next.items v.ends.items c.args.self.now c.args.from c.args.to c.index-source.result.now c.index-target.result.now c.index.result.now c.self.invariant c.self.view_is c.requires.from_there c.requires.to_there c.requires.apart c.index-source.ensures c.index-target.ensures c.requires.some (omega (arith, c.if-target-eq0.false)) c.index.ensures).0

pub returns-else-target-eq0 : goal.returns-else-target-eq0
returns-else-target-eq0 c =
    let v = c.self.inside in
    let both = (shift-behind v.next.items v.ends.items c.args.self.now c.args.from c.args.to c.index-source.result.now c.index-target.result.now c.index.result.now c.self.invariant c.self.view_is c.requires.from_there c.requires.to_there c.requires.apart c.index-source.ensures c.index-target.ensures c.requires.some (omega (arith, c.if-target-eq0.false)) c.index.ensures) in
    record { shifted = both.1; owned = each_once _ _ _ both.0 refl }
