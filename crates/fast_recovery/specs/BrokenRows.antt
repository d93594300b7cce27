-- The row that breaks a rule of well formed pages and rows, by its row id. The rows of the catalogue are those in pages with its owner whose bytes say a table.
use Rattle.std.specs.Prelude.{◌≡◌, ◌≢◌, ℕ, ◌<◌, ◌≤◌, Some, None}
use Rattle.ids_base.specs.declared.value.Value.{Value}
use Rattle.ids_base.specs.RowIds.{row_number, page_of}
use Rattle.ids_base.specs.Shapes.{row_length}
use Rattle.row_codec.specs.Rows.{row_of}
use Rattle.row_codec.specs.Catalogue.{entry_of}
use Rattle.ids_model.specs.Tables.{Row, Shape, Name}
use Rattle.ids_model.specs.Slots.{Bytes, Own, Slots, own_at, slot_at}
use Rattle.ids_model.specs.Stands.{catalogue, Holds, CatalogueRow, IsCatalogued, TableRow, IsWhole}

-- the row id is that of slot 1 of a page with this owner, whether the slot holds a row or not
pub record BeginsPage (own : Own) (row : ℕ) (owner : ℕ × ℕ) : Type 0 where
  pub slot : row ≡ row_number (page_of row) 1
  pub owned : own_at own (page_of row) ≡ Some owner

-- the first row of the catalogue with this number, by row id, says this shape
pub record HasShape (own : Own) (slots : Slots) (number : ℕ) (shape : Shape) : Type 0 where
  pub slot : ℕ
  pub name : Name
  pub row : CatalogueRow own slots slot number name shape
  pub first : (q : ℕ) (n : Name) (s : Shape) → CatalogueRow own slots q number n s → slot ≤ q

-- slot 1 of a page of table 1 whose rows have not the length of the catalogue's
pub record IsInOddCatalogue (own : Own) (row : ℕ) : Type 0 where
  pub length : ℕ
  pub begins : BeginsPage own row (1, length)
  pub other : length ≢ 359

-- slot 1 of a page of a table in the catalogue whose rows have not the length that its shape gives
pub record IsInOddPage (own : Own) (slots : Slots) (row : ℕ) : Type 0 where
  pub number : ℕ
  pub length : ℕ
  pub shape : Shape
  pub begins : BeginsPage own row (number, length)
  pub named : HasShape own slots number shape
  pub other : length ≢ row_length shape

-- a row in a page of the catalogue whose bytes say no table
pub record SaysNoTable (own : Own) (slots : Slots) (row : ℕ) : Type 0 where
  pub bytes : Bytes
  pub holds : Holds own slots row catalogue bytes
  pub says : entry_of bytes ≡ None

-- a row of the catalogue with the number of a lesser row id
pub record RepeatsNumber (own : Own) (slots : Slots) (row : ℕ) : Type 0 where
  pub lesser : ℕ
  pub number : ℕ
  pub name : Name
  pub earlier_name : Name
  pub shape : Shape
  pub earlier_shape : Shape
  pub this : CatalogueRow own slots row number name shape
  pub earlier : CatalogueRow own slots lesser number earlier_name earlier_shape
  pub less : lesser < row

-- a row of the catalogue with the name of a lesser row id
pub record RepeatsName (own : Own) (slots : Slots) (row : ℕ) : Type 0 where
  pub lesser : ℕ
  pub number : ℕ
  pub earlier_number : ℕ
  pub name : Name
  pub shape : Shape
  pub earlier_shape : Shape
  pub this : CatalogueRow own slots row number name shape
  pub earlier : CatalogueRow own slots lesser earlier_number name earlier_shape
  pub less : lesser < row

-- a row in a page of another table than the catalogue, which has no such table
pub record HasNoTable (own : Own) (slots : Slots) (row : ℕ) : Type 0 where
  pub owner : ℕ × ℕ
  pub bytes : Bytes
  pub holds : Holds own slots row owner bytes
  pub other : owner.0 ≢ 1
  pub absent : (name : Name) (shape : Shape) → ¬ IsCatalogued own slots owner.0 name shape

-- a row in a page of a table whose bytes are no row of the table's shape
pub record SaysNoRow (own : Own) (slots : Slots) (row : ℕ) : Type 0 where
  pub owner : ℕ × ℕ
  pub bytes : Bytes
  pub shape : Shape
  pub holds : Holds own slots row owner bytes
  pub named : HasShape own slots owner.0 shape
  pub says : row_of shape bytes ≡ None

-- a row of a table with the key of a lesser row id of it
pub record RepeatsKey (own : Own) (slots : Slots) (row : ℕ) : Type 0 where
  pub lesser : ℕ
  pub number : ℕ
  pub shape : Shape
  pub key : Value
  pub values : Row
  pub earlier_values : Row
  pub named : HasShape own slots number shape
  pub this : TableRow own slots row number shape key values
  pub earlier : TableRow own slots lesser number shape key earlier_values
  pub less : lesser < row

-- a row in a page without an owner
pub record HasNoOwner (own : Own) (slots : Slots) (row : ℕ) : Type 0 where
  pub bytes : Bytes
  pub stored : slot_at slots row ≡ Some bytes
  pub unowned : own_at own (page_of row) ≡ None

-- the row id breaks a rule of well formed pages and rows, in one of these ways
pub data IsBrokenRow (own : Own) (slots : Slots) (row : ℕ) : Type 0 where
  odd_catalogue : IsInOddCatalogue own row → IsBrokenRow own slots row
  odd_page : IsInOddPage own slots row → IsBrokenRow own slots row
  no_table_said : SaysNoTable own slots row → IsBrokenRow own slots row
  number_repeated : RepeatsNumber own slots row → IsBrokenRow own slots row
  name_repeated : RepeatsName own slots row → IsBrokenRow own slots row
  no_table : HasNoTable own slots row → IsBrokenRow own slots row
  no_row_said : SaysNoRow own slots row → IsBrokenRow own slots row
  key_repeated : RepeatsKey own slots row → IsBrokenRow own slots row
  no_owner : HasNoOwner own slots row → IsBrokenRow own slots row

-- where a row is broken, pages and rows are no well formed ones
abbrev pub BrokenRowsAreNotWhole : Type 0
BrokenRowsAreNotWhole = (own : Own) (slots : Slots) (row : ℕ) → IsBrokenRow own slots row → ¬ IsWhole own slots
