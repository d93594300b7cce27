-- The tables that are found, their numbers, and the greatest of these; or the row that is broken.
use Rattle.std.proofs.Common.{◌≡◌, ℕ, ◌≤◌, max, true, false, subst, [], Some, arith}
use Rattle.std.specs.FinMap as map
use Rattle.ids_base.specs.RowIds.{row_number}
use Rattle.ids_model.specs.Tables.{Tables}
use Rattle.ids_model.specs.Slots.{Own, Slots, own_at}
use Rattle.ids_model.specs.Stands.{Stands}
use Rattle.ids_model.specs.Logged.{StandsWhole}
use Rattle.fast_recovery.specs.declared.catalogue.Catalogue.{Catalogue}
use Rattle.fast_recovery.specs.BrokenRows.{IsBrokenRow}
use Rattle.fast_recovery.specs.Found.{AreNumbered, IsGreatest}
use Rattle.fast_recovery.specs.Reading.{AreNames, may_own}
use Rattle.fast_recovery.specs.CatalogueRead.{CatalogueRead}
use Rattle.fast_recovery.specs.RowsRead.{RowsRead}
use Rattle.fast_recovery.proofs.CatalogueWhole.{to_read, are_names, page_broken}
use Rattle.fast_recovery.proofs.RowsStart.{rows_start}
use Rattle.fast_recovery.proofs.RowsGrow.{rows_stand}

-- the pages and slots of a replay are those that were read
pub read_of : (o own : Own) (s slots : Slots) (c : Catalogue) → o ≡ own → s ≡ slots → CatalogueRead o s [] c → CatalogueRead own slots [] c
read_of o own s slots c pages rows r = subst (λ (x : Own). CatalogueRead x slots [] c) pages (subst (λ (x : Slots). CatalogueRead o x [] c) rows r)

-- and a row that is broken in what was read is so in the replay
pub still_broken : (o own : Own) (s slots : Slots) → o ≡ own → s ≡ slots → (row : ℕ) → IsBrokenRow o s row → IsBrokenRow own slots row
still_broken o own s slots pages rows row broken = subst (λ (x : Own). IsBrokenRow x slots row) pages (subst (λ (x : Slots). IsBrokenRow o x row) rows broken)

module _ (o own : Own) (s slots : Slots) (pages : o ≡ own) (rows : s ≡ slots) (c : Catalogue) (r : CatalogueRead o s [] c) where
  pub broken_by_pages : (page : ℕ) (owner : ℕ × ℕ) → own_at o page ≡ Some owner → may_own c.tables c.names owner ≡ false → IsBrokenRow own slots (row_number page 1)
  broken_by_pages page owner is not = still_broken o own s slots pages rows (row_number page 1) (page_broken o s c r page owner is not)

  module _ (may : (page : ℕ) (owner : ℕ × ℕ) → own_at o page ≡ Some owner → may_own c.tables c.names owner ≡ true) where
    pub broken_by_rows : (row : ℕ) → (AreNames o s c.names → RowsRead o s (map.entries s) c.tables → IsBrokenRow o s row) → IsBrokenRow own slots row
    broken_by_rows row broken = still_broken o own s slots pages rows row (broken (are_names o s c r) (rows_start o s c r may))

    pub tables_stand : (T : Tables) → (AreNames o s c.names → RowsRead o s (map.entries s) c.tables → RowsRead o s [] T) → StandsWhole own slots T
    tables_stand T read =
        subst (λ (x : Own). StandsWhole x slots T) pages (subst (λ (x : Slots). StandsWhole o x T) rows (rows_stand o s T (read (are_names o s c r) (rows_start o s c r may))))

  pub are_numbered : (T : Tables) → Stands own slots T → AreNumbered own slots T c.numbers
  are_numbered T it =
      let all = read_of o own s slots c pages rows r in
      record { each = λ name shape is. let d = it.tables name shape is in (d.0, all.numbers d.0 name shape (to_read own slots c all d.0 name shape d.1), d.1) }

  pub is_greatest : (owners : ℕ) → 99 ≤ owners → ((page : ℕ) (owner : ℕ × ℕ) → own_at o page ≡ Some owner → owner.0 ≤ owners) → IsGreatest own slots (max c.greatest owners)
  is_greatest owners least above =
      let all = read_of o own s slots c pages rows r in
      let each : (page : ℕ) (owner : ℕ × ℕ) → own_at own page ≡ Some owner → owner.0 ≤ owners =
      subst (λ (x : Own). (page : ℕ) (owner : ℕ × ℕ) → own_at x page ≡ Some owner → owner.0 ≤ owners) pages above in
      record {
        least = omega arith;
        owners = λ page owner is. let below : owner.0 ≤ owners = each page owner is in omega arith;
        catalogued = λ number name shape d. let below : number ≤ c.greatest = all.greatest number name shape (to_read own slots c all number name shape d) in omega arith;
      }
