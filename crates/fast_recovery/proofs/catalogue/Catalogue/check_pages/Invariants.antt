use Rattle.std.proofs.Common.{◌≡◌, ℕ, true, Some}
use Rattle.ids_model.specs.Slots.{own_at}
use Rattle.fast_recovery.specs.Reading.{AreEntries, IsRead, may_own}
use Rattle.fast_recovery.proofs.catalogue.Catalogue.check_pages.Given as goal

-- the pages before those that are left may have their owners
abbrev pub invariant-loop-page : goal.invariant-loop-page
invariant-loop-page l =
    AreEntries l.owners l.page-iterator
    × ((page : ℕ) (owner : ℕ × ℕ) → own_at l.owners page ≡ Some owner → IsRead l.page-iterator page → may_own l.self.tables l.self.names owner ≡ true)
