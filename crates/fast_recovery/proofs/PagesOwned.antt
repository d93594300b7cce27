-- The pages that have an owner have numbers of 24 bits.
use Rattle.std.proofs.Common.{◌≡◌, ◌<◌, ◌^◌, ℕ, sym, ◌∙◌, subst, ◌⊎◌, inl, inr}
use Rattle.std.specs.FinMap as map
use Rattle.std.specs.FinMap.{get-empty}
use Rattle.std.specs.Ordering.{nat_cmp}
use Rattle.ids_model.specs.Slots.{Own, set_own}
use Rattle.ids_model.proofs.Holding.{none_some}
use Rattle.ids_model.proofs.Setting.{own_elsewhere, same_or_not}
use Rattle.fast_recovery.specs.Pages.{ArePages}

-- where no page has an owner
pub no_pages : ArePages map.empty
no_pages page owner is = absurd (none_some owner (sym (get-empty nat_cmp page) ∙ is))

-- where one more has
pub one_more_page : (own : Own) (page : ℕ) (owner : ℕ × ℕ) → ArePages own → page < 2 ^ 24 → ArePages (set_own own page owner)
one_more_page own page owner are small p o is = inside (same_or_not p page)
  where
    inside : (p ≡ page) ⊎ (p ≡ page → ⊥) → p < 2 ^ 24
    inside (inl here) = subst (λ (x : ℕ). x < 2 ^ 24) (sym here) small
    inside (inr there) = are p o (sym (own_elsewhere own page owner p there) ∙ is)
