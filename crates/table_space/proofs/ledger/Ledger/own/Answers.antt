use Rattle.std.proofs.Common.{◌≡◌, ap, refl, sym, ◌∙◌, arith, length}
use Rattle.std.proofs.Math.ListN.{length-set}
use Rattle.table_space.specs.Kept.{Kept}
use Rattle.table_space.proofs.Fronts.{same-stays}
use Rattle.table_space.proofs.FullPages.{rooms-noted}
use Rattle.table_space.proofs.Reserving.{reserves-set, reserves-owned, none-marked}
use Rattle.table_space.proofs.ledger.Ledger.own.Goals as goal

pub renew-requires-clause-fronts : goal.renew-requires-clause-fronts
renew-requires-clause-fronts c = rw c.deref.ensures.value c.self.invariant.3

pub invariant_of-self : goal.invariant_of-self
invariant_of-self c =
    let same : length c.self.inside.owners ≡ length c.args.self.now.owners = ap (λ (k : Kept). length k.owners) c.self.view_is in
    let size : length c.self.inside.owners ≡ length c.set.new.self = sym (length-set c.self.inside.owners _ _) ∙ ap length (sym c.set.ensures) in (
      c.self.invariant.0 ∙ size,
      c.mark.ensures.pages ∙ (c.self.invariant.1 ∙ size),
      c.renew.ensures.reserve_pages ∙ (c.self.invariant.2 ∙ size),
      c.self.invariant.3,
      rw c.set.ensures (rooms-noted c.self.inside.owners c.self.inside.rooms c.mark.new.self c.args.page 0 c.args.table 0 c.requires.first (omega (arith, same, c.requires.last)) (omega arith)
          (λ other ne. same-stays (λ t k. refl) other)
          c.self.invariant.4 (λ slot some last small. absurd (omega (arith, some, last)))
          c.mark.ensures.here c.mark.ensures.others),
      rw c.set.ensures (reserves-set c.self.inside.owners c.self.inside.reserves c.renew.new.reserves c.args.page 0 c.args.table c.requires.first (omega arith)
          (λ other ne. same-stays (λ t k. refl) other)
          (rw c.set.ensures at c.renew.ensures.here) c.renew.ensures.others c.self.invariant.5),
    )

pub invariant_of-self-else-has_any : goal.invariant_of-self-else-has_any
invariant_of-self-else-has_any c =
    let same : length c.self.inside.owners ≡ length c.args.self.now.owners = ap (λ (k : Kept). length k.owners) c.self.view_is in
    let size : length c.self.inside.owners ≡ length c.set.new.self = sym (length-set c.self.inside.owners _ _) ∙ ap length (sym c.set.ensures) in (
      c.self.invariant.0 ∙ size,
      c.mark.ensures.pages ∙ (c.self.invariant.1 ∙ size),
      c.self.invariant.2 ∙ size,
      c.self.invariant.3,
      rw c.set.ensures (rooms-noted c.self.inside.owners c.self.inside.rooms c.mark.new.self c.args.page 0 c.args.table 0 c.requires.first (omega (arith, same, c.requires.last)) (omega arith)
          (λ other ne. same-stays (λ t k. refl) other)
          c.self.invariant.4 (λ slot some last small. absurd (omega (arith, some, last)))
          c.mark.ensures.here c.mark.ensures.others),
      rw c.set.ensures (reserves-owned c.self.inside.owners c.self.inside.reserves c.args.page c.args.table c.requires.first (omega (arith, same, c.requires.last))
          (none-marked _ (sym c.has_any.ensures ∙ c.if-has_any.false)) c.self.invariant.5),
    )
