-- What contracts see of a table space: the entries of its keys, the owners of its pages, and its tables.
use Rattle.std.specs.Prelude.{◌≡◌, ◌≢◌, ℕ, ◌-◌, ◌≤◌, Bool, true, ◌==◌, List, [], Option, Some, None, is_some, length, nat_eq, replicate, if◌then◌else◌, slice_index_or}
use Rattle.indexmap.specs.IndexMap as index
use Rattle.ids_base.specs.declared.lock.Key.{Key}
use Rattle.ids_base.specs.Shapes.{Name, Shape, row_length}
use Rattle.table_space.specs.declared.space.Table.{Table}
use Rattle.table_space.specs.declared.space.TableSpace.{TableSpace}
use Rattle.table_space.specs.Catalogue.{catalogue_key_of}
use Rattle.table_space.specs.Directory.{entries_at}
use Rattle.table_space.specs.Noted.{row_of}
use Rattle.table_space.specs.Owners.{IsOwned, IsNextOwned, HasNoNextOwned}
use Rattle.table_space.specs.Seen.{Entries}
use Rattle.table_space.specs.Tables.{table_in}

-- the entries of each table and key
abbrev pub entries_of : TableSpace → Entries
entries_of s = entries_at s.ledger.directory

-- the owner of each page, from page 1 on
abbrev pub owners_of : TableSpace → List (Option ℕ)
owners_of s = s.ledger.owners

abbrev pub owner_of : TableSpace → ℕ → Option ℕ
owner_of s page = slice_index_or (owners_of s) (page - 1) None

abbrev pub pages_of : TableSpace → ℕ
pages_of s = length (owners_of s)

-- a page is a table's
abbrev pub Owns : TableSpace → ℕ → ℕ → Type 0
Owns s table page = IsOwned (owners_of s) table page

-- the least page behind one that a table owns
abbrev pub IsNextPage : TableSpace → ℕ → ℕ → ℕ → Type 0
IsNextPage s table from page = IsNextOwned (owners_of s) table from page

-- there is none
abbrev pub HasNoNextPage : TableSpace → ℕ → ℕ → Type 0
HasNoNextPage s table from = HasNoNextOwned (owners_of s) table from

-- the name and the shape of a table, where it was entered
abbrev pub table_at : TableSpace → ℕ → Option Table
table_at s t = table_in (index.get nat_eq s.tables.entered t)

-- the bytes of a row of a table: 359 of the catalogue, else as its shape says
abbrev pub length_in : Option Table → ℕ
length_in None = 0
length_in (Some t) = row_length t.shape

abbrev pub length_of : TableSpace → ℕ → ℕ
length_of s table = if table == 1 then 359 else length_in (table_at s table)

-- the name of a table
abbrev pub name_in : Option Table → Option Name
name_in None = None
name_in (Some t) = Some t.name

-- a table is there while its row in the catalogue is
abbrev pub is_there : TableSpace → ℕ → Bool
is_there s table = is_some (row_of (entries_of s 1 (catalogue_key_of table)))

-- the shape of a table
abbrev pub shape_in : Option Table → Option Shape
shape_in None = None
shape_in (Some t) = Some t.shape

-- a table that is there has this name
pub record IsNamed (s : TableSpace) (name : Name) (table : ℕ) : Type 0 where
  pub named : name_in (table_at s table) ≡ Some name
  pub there : is_there s table ≡ true

-- the least of them
pub record IsLeastNamed (s : TableSpace) (name : Name) (table : ℕ) : Type 0 where
  pub one : IsNamed s name table
  pub least : (t : ℕ) → IsNamed s name t → table ≤ t

-- so many pages, none with an owner, no entries and no tables
pub record IsUnused (s : TableSpace) (pages : ℕ) : Type 0 where
  pub owners : owners_of s ≡ replicate pages None
  pub entries : (t : ℕ) (k : Key) → entries_of s t k ≡ []
  pub tables : (t : ℕ) → table_at s t ≡ None

-- all tables keep their names and shapes
abbrev pub IsSameTables : TableSpace → TableSpace → Type 0
IsSameTables was now = (t : ℕ) → table_at now t ≡ table_at was t

-- a table has this name and shape, and all others have theirs
pub record Names (was now : TableSpace) (table : ℕ) (name : Name) (shape : Shape) : Type 0 where
  pub here : table_at now table ≡ Some (record { name = name; shape = shape })
  pub beside : (t : ℕ) → t ≢ table → table_at now t ≡ table_at was t
