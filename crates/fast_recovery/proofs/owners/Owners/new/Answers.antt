use Rattle.std.proofs.Common.{ℕ, List, sym, subst}
use Rattle.std.specs.FinMap as map
use Rattle.ids_model.specs.Slots.{Own}
use Rattle.fast_recovery.specs.Pages.{ArePages}
use Rattle.fast_recovery.proofs.PagesOwned.{no_pages}
use Rattle.fast_recovery.proofs.owners.Owners.new.Goals as goal

pub invariant_of-result : goal.invariant_of-result
invariant_of-result c =
    let P : List (ℕ × (ℕ × ℕ)) → Type 0 = λ es. let own : Own = map.from_entries es in ArePages own in
    subst P (sym c.new.ensures.empty) no_pages
