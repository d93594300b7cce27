-- Where a row is broken, pages and rows are no well formed ones.
use Rattle.std.proofs.Common.{◌≡◌, ◌<◌, ℕ, ap, sym, ◌∙◌, arith}
use Rattle.ids_base.specs.RowIds.{page_of}
use Rattle.row_codec.specs.Rows.{row_of}
use Rattle.ids_model.specs.Tables.{Shape}
use Rattle.ids_model.specs.Slots.{Own, Slots}
use Rattle.ids_model.specs.Stands.{IsCatalogued, IsWhole}
use Rattle.ids_model.proofs.Holding.{none_some, one_number, other_than_first}
use Rattle.fast_recovery.specs.BrokenRows.{HasShape, IsBrokenRow, odd_catalogue, odd_page, no_table_said, number_repeated, name_repeated, no_table, no_row_said, key_repeated, no_owner}

-- a table with a shape is in the catalogue
catalogued : (own : Own) (slots : Slots) (number : ℕ) (shape : Shape) (h : HasShape own slots number shape) → IsCatalogued own slots number h.name shape
catalogued own slots number shape h = record { slot = h.slot; row = h.row }

-- no row id is less than itself
not_less : (p q : ℕ) → p < q → p ≡ q → ⊥
not_less p q less same = omega arith

module _ (own : Own) (slots : Slots) (row : ℕ) (whole : IsWhole own slots) where
  pub not_broken : IsBrokenRow own slots row → ⊥
  not_broken (odd_catalogue b) =
      let may = whole.pages (page_of row) (1, b.length) b.begins.owned in
      b.other (ap (λ (o : ℕ × ℕ). o.1) (may.first (λ i. 1)))
  not_broken (odd_page b) =
      let may = whole.pages (page_of row) (b.number, b.length) b.begins.owned in
      b.other (ap (λ (o : ℕ × ℕ). o.1) (may.others b.named.name b.shape (catalogued own slots b.number b.shape b.named)))
  not_broken (no_table_said b) = let e = whole.entries row b.bytes b.holds in none_some e.0 (sym b.says ∙ e.1)
  not_broken (number_repeated b) =
      not_less b.lesser row b.less (whole.numbers b.lesser row b.number b.earlier_name b.name b.earlier_shape b.shape b.earlier b.this)
  not_broken (name_repeated b) =
      not_less b.lesser row b.less (whole.names b.lesser row b.earlier_number b.number b.name b.earlier_shape b.shape b.earlier b.this)
  not_broken (no_table b) = let it = whole.rows row b.owner b.bytes b.holds b.other in b.absent it.name it.shape it.named
  not_broken (no_row_said b) =
      let named = catalogued own slots b.owner.0 b.shape b.named in
      let it = whole.rows row b.owner b.bytes b.holds (other_than_first own slots b.owner.0 b.named.name b.shape named) in
      let same = one_number own slots b.owner.0 b.named.name it.name b.shape it.shape whole named it.named in
      none_some it.row (sym b.says ∙ ap (λ (s : Shape). row_of s b.bytes) same.1 ∙ it.says)
  not_broken (key_repeated b) =
      not_less b.lesser row b.less
      (whole.keys b.lesser row b.number b.named.name b.shape b.key b.earlier_values b.values (catalogued own slots b.number b.shape b.named) b.earlier b.this)
  not_broken (no_owner b) = let o = whole.owned row b.bytes b.stored in none_some o.0 (sym b.unowned ∙ o.1)
