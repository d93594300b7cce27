use Rattle.std.proofs.Common.{◌≡◌, ℕ, ◌+◌, ◌-◌, take, drop, Some, sym, ap, ◌∙◌, arith}
use Rattle.slot_page.proofs.InSlots.{slot_counted, row_at-empty, row_at-full}
use Rattle.slot_page.proofs.page.Page.get.Goals as goal

pub place-at-requires-clause-counted : goal.place-at-requires-clause-counted
place-at-requires-clause-counted c =
    slot_counted c.self.inside.bytes c.args.self.now c.length_in-length.result c.args.slot
    (record { long = c.self.told; page = c.self.invariant; seen = c.self.view_is; sized = c.length_in-length.ensures }) c.requires

pub returns-then-self-at-eq0 : goal.returns-then-self-at-eq0
returns-then-self-at-eq0 c =
    sym (row_at-empty c.self.inside.bytes c.args.self.now c.length_in-length.result c.args.slot c.place-at.result
    (record { long = c.self.told; page = c.self.invariant; seen = c.self.view_is; sized = c.length_in-length.ensures }) c.requires c.place-at.ensures.place c.if-self-at-eq0.true)

pub returns-else-self-at-eq0 : goal.returns-else-self-at-eq0
returns-else-self-at-eq0 c =
    let at = c.place-at.result in
    let size : at + 1 + c.from.result - (at + 1) ≡ c.length_in-length.result = omega (arith, c.from.ensures) in
    ap (λ (k : ℕ). Some (take k (drop (at + 1) c.self.inside.bytes))) size
    ∙ sym (row_at-full c.self.inside.bytes c.args.self.now c.length_in-length.result c.args.slot at
    (record { long = c.self.told; page = c.self.invariant; seen = c.self.view_is; sized = c.length_in-length.ensures }) c.requires c.place-at.ensures.place c.if-self-at-eq0.false)
