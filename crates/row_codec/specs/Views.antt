-- A row of the catalogue, as specs see it.
use Rattle.row_codec.specs.declared.catalogue.CatalogueRow.{CatalogueRow}
use Rattle.row_codec.specs.Catalogue.{Entry}

-- what a row of the catalogue says
abbrev pub entry_in : CatalogueRow → Entry
entry_in row = record { number = row.number; name = row.name; shape = row.shape }
