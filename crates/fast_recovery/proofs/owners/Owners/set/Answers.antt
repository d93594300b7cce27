use Rattle.std.proofs.Common.{ap, sym, ◌∙◌, subst}
use Rattle.ids_model.specs.Slots.{Own, set_own}
use Rattle.fast_recovery.specs.Pages.{ArePages}
use Rattle.fast_recovery.proofs.Made.{made, insert-made}
use Rattle.fast_recovery.proofs.PagesOwned.{one_more_page}
use Rattle.fast_recovery.proofs.owners.Owners.set.Goals as goal

pub invariant_of-self-2 : goal.invariant_of-self-2
invariant_of-self-2 c =
    subst ArePages (sym (insert-made c.self.inside.owners c.insert.new.self c.args.page c.args.owner c.in_ok-insert.ensures.updates.0))
    (one_more_page (made c.self.inside.owners) c.args.page c.args.owner c.self.invariant c.requires)

pub returns : goal.returns
returns c =
    insert-made c.self.inside.owners c.insert.new.self c.args.page c.args.owner c.in_ok-insert.ensures.updates.0
    ∙ ap (λ (m : Own). set_own m c.args.page c.args.owner) c.self.view_is
