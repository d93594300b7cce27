-- Before any row of the catalogue is read.
use Rattle.std.proofs.Common.{ℕ, sym, ◌∙◌, arith}
use Rattle.std.specs.FinMap as map
use Rattle.std.specs.FinMap.{get-empty}
use Rattle.std.specs.Ordering.{nat_cmp}
use Rattle.ids_model.specs.Tables.{Shape, Name}
use Rattle.ids_model.specs.Slots.{Own, Slots}
use Rattle.ids_model.specs.Stands.{IsCatalogued}
use Rattle.ids_model.proofs.Holding.{none_some}
use Rattle.ids_model.proofs.OneTables.{nothing_stands}
use Rattle.fast_recovery.specs.CatalogueRead.{CatalogueRead}
use Rattle.fast_recovery.proofs.EntriesInOrder.{all_entries, none_read}

no_table : (own : Own) (number : ℕ) (name : Name) (shape : Shape) → IsCatalogued own map.empty number name shape → ⊥
no_table own number name shape c = none_some c.row.bytes (sym (get-empty nat_cmp c.slot) ∙ c.row.holds.stored)

pub catalogue_starts : (own : Own) (slots : Slots) → CatalogueRead own slots (map.entries slots) (record { tables = map.empty; numbers = map.empty; names = map.empty; greatest = 99 })
catalogue_starts own slots = record {
  rest_is = all_entries slots;
  read_pages = map.empty;
  read_rows = map.empty;
  of_pages = λ page owner is. absurd (none_some owner (sym (get-empty nat_cmp page) ∙ is));
  of_rows = λ slot bytes is. absurd (none_some bytes (sym (get-empty nat_cmp slot) ∙ is));
  all = λ slot bytes h read. absurd (none_read slots slot bytes h.stored read);
  stands = nothing_stands;
  names = record {
    said = λ number name is. absurd (none_some name (sym (get-empty nat_cmp number) ∙ is));
    all = λ number name shape c. absurd (no_table map.empty number name shape c);
  };
  numbers = λ number name shape c. absurd (no_table map.empty number name shape c);
  least = omega arith;
  greatest = λ number name shape c. absurd (no_table map.empty number name shape c);
}
