use Rattle.std.proofs.Common.{◌<◌, ◌≡◌, ◌+◌, ◌-◌, ◌∙◌, List, ℕ, length, get_or, arith, ap, sym}
use Rattle.std.proofs.lemmas.List.{get_or_default, get_or_read}
use Rattle.mem_pools.specs.Linked.{Linked, list_at}
use Rattle.mem_pools.specs.declared.chains.Ends.{Ends}
use Rattle.mem_pools.proofs.Linking.{seen_lt, seen_next}
use Rattle.mem_pools.proofs.chains.Chains.next.Goals as goal

pub returns : goal.returns
returns c = λ chain k below more is.
    let v = c.self.inside in
    let any : Ends = record { first = 0; last = 0; count = 0 } in
    let there = seen_lt v.next.items v.ends.items c.args.self.now chain c.self.view_is below in
    let e : Ends = get_or v.ends.items chain any in
    let step = seen_next v.next.items v.ends.items c.args.self.now chain k e c.self.view_is below (get_or_default v.ends.items chain any e there) more in
    let blocks = ap (λ (d : Linked). d.blocks) c.self.view_is in
    step ∙ ap (λ (b : ℕ). get_or v.next.items b 0) is ∙ sym (get_or_read v.next.items c.args.block c.index.result.now (omega (arith, c.requires, blocks)) c.index.ensures 0)
