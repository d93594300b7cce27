use Rattle.std.proofs.Common.{◌≡◌, ℕ, true, List, Some, subst, sym, ◌∙◌}
use Rattle.std.specs.FinMap as map
use Rattle.ids_model.specs.Slots.{own_at}
use Rattle.fast_recovery.specs.Reading.{AreEntries, IsRead, may_own}
use Rattle.fast_recovery.proofs.EntriesInOrder.{all_entries, none_read}
use Rattle.fast_recovery.proofs.catalogue.Catalogue.check_pages.Goals as goal

pub loop-page-init : goal.loop-page-init
loop-page-init c =
    let own = c.args.owners.now in
    let it = c.args.self.now in
    let all : c.into_iter-page-iterator.result ≡ map.entries own = c.into_iter-page-iterator.ensures.into_iter_gives ∙ c.iter-page-items.ensures.all in
    subst (λ (es : List (ℕ × (ℕ × ℕ))). AreEntries own es × ((page : ℕ) (owner : ℕ × ℕ) → own_at own page ≡ Some owner → IsRead es page → may_own it.tables it.names owner ≡ true))
    (sym all) (all_entries own, λ page owner is read. absurd (none_read own page owner is read))
