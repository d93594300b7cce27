-- Which tables are there: those whose rows in the catalogue are filled.
use Rattle.std.specs.Prelude.{◌≡◌, ℕ, ◌<◌, ◌^◌, Bool, ◌&&◌, ◌==◌, is_some}
use Rattle.ids_base.specs.declared.lock.Key.{Key}
use Rattle.ids_base.specs.LockNames.{is_same_key}
use Rattle.table_space.specs.declared.directory.Directory.{Directory}
use Rattle.table_space.specs.Catalogue.{catalogue_key_of}
use Rattle.table_space.specs.Directory.{entries_at}
use Rattle.table_space.specs.Noted.{row_of}
use Rattle.table_space.specs.Tables.{Known, table_in, is_shown}

-- the row of a table in the catalogue is filled
abbrev pub is_there_in : Directory → ℕ → Bool
is_there_in d table = is_some (row_of (entries_at d 1 (catalogue_key_of table)))

-- the names that are shown are those of the tables that were entered and are there
abbrev pub AreThere : Directory → Known → Type 0
AreThere d tables = (t : ℕ) → t < 2 ^ 32 → is_shown (tables t) ≡ (is_some (table_in (tables t)) && is_there_in d t)

-- a table and a key are those of a table's row in the catalogue
abbrev pub is_row_of : ℕ → Key → ℕ → Bool
is_row_of table key t = (table == 1) && is_same_key key (catalogue_key_of t)
