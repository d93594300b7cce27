use Rattle.std.proofs.Common.{◌≡◌, ◌<◌, ◌≤◌, ◌∙◌, sym, arith, length}
use Rattle.std.proofs.lemmas.Bool.{ltb-true}
use Rattle.mem_pools.proofs.Keeping.{seen_some, seen_none}
use Rattle.mem_pools.proofs.pool_set.Pools.stands.Goals as goal

pub returns-then-pool-len : goal.returns-then-pool-len
returns-then-pool-len c =
    let v = c.self.inside in
    let same = seen_some v.blocks.items v.slots.items v.chains c.args.self.now c.args.pool c.index.result.now c.self.invariant c.self.view_is (omega (arith, c.if-pool-len.true, c.len.ensures)) c.index.ensures in
    (λ h. same ∙ sym c.is_some.ensures ∙ h, λ h. c.is_some.ensures ∙ sym same ∙ h)

pub returns-else-pool-len : goal.returns-else-pool-len
returns-else-pool-len c =
    let v = c.self.inside in
    (λ h. absurd (omega (arith, ltb-true c.args.pool c.len.result h, c.if-pool-len.false)), λ h. absurd (seen_none v.blocks.items v.slots.items v.chains c.args.self.now c.args.pool c.self.invariant c.self.view_is (omega (arith, c.if-pool-len.false, c.len.ensures)) h))
