-- The rows of the catalogue: one of 359 bytes for each table.
use Rattle.std.specs.Prelude.{ℕ, ◌-◌, ◌*◌, ◌^◌, ◌==◌, Bool, not, ◌&&◌, if◌then◌else◌, List, [], ◌∷◌, ◌++◌, length, take, drop, nat_le, nat_lt, nat_eq, replicate, Option, Some, None, zero, suc, get_or, take_while}
use Rattle.std.specs.List.{list_all, flat_map}
use Rattle.std.specs.Int.{w16, w32, to_be_bytes, from_be_bytes}
use Rattle.std.specs.Cmp.Lexicographic.{pointwise}
use Rattle.ids_base.specs.declared.shape.Kind.{Kind}
use Rattle.ids_base.specs.declared.shape.Kind.TheVariants.{Integer, Char}
use Rattle.ids_base.specs.declared.shape.Column.{Column}
use Rattle.ids_base.specs.Names.{is_name}
use Rattle.ids_base.specs.Shapes.{Shape, Name, is_shape}

-- what a row of the catalogue says: a table's number, its name and its shape
pub record Entry : Type 0 where
  pub number : ℕ
  pub name : Name
  pub shape : Shape

-- a name filled with zero bytes up to 18
abbrev pub name_bytes : Name → List ℕ
name_bytes name = name ++ replicate (18 - length name) 0

-- 0 and two zero bytes for an INTEGER, 1 and the size for a CHAR
abbrev pub kind_bytes : Kind → List ℕ
kind_bytes Integer = 0 ∷ 0 ∷ 0 ∷ []
kind_bytes (Char size) = 1 ∷ to_be_bytes w16 size

abbrev pub column_bytes : Column → List ℕ
column_bytes c = name_bytes c.name ++ kind_bytes c.kind

-- the number, the name, the count of columns, and 16 columns of 21 bytes, the unused ones zero
abbrev pub entry_bytes : Entry → List ℕ
entry_bytes e = to_be_bytes w32 e.number ++ name_bytes e.name ++ length e.shape ∷ flat_map column_bytes e.shape ++ replicate (21 * (16 - length e.shape)) 0

-- at most 16 columns, whose names are names
abbrev pub are_columns : Shape → Bool
are_columns shape = nat_le (length shape) 16 && list_all (λ (c : Column). is_name c.name) shape

-- numbers of tables other than the catalogue are at least 100; names are names, and the shape is a good one
abbrev pub is_entry : Entry → Bool
is_entry e = (nat_le 100 e.number && nat_lt e.number (2 ^ 32)) && (is_name e.name && (list_all (λ (c : Column). is_name c.name) e.shape && is_shape e.shape))

-- Reading goes the other way; what was read has to be spelled by the same bytes.
abbrev pub kind_of : List ℕ → Kind
kind_of [] = Integer
kind_of (tag ∷ size) = if tag == 0 then Integer else Char (from_be_bytes w16 size)

abbrev pub name_of : List ℕ → Name
name_of bytes = take_while (λ b. not (b == 0)) (take 18 bytes)

abbrev pub column_of : List ℕ → Column
column_of bytes = record { name = name_of bytes; kind = kind_of (take 3 (drop 18 bytes)) }

abbrev pub columns_of : ℕ → List ℕ → Shape
columns_of zero bytes = []
columns_of (suc n) bytes = column_of bytes ∷ columns_of n (drop 21 bytes)

unfoldable pub read_entry : List ℕ → Entry
read_entry bytes = record { number = from_be_bytes w32 (take 4 bytes); name = name_of (drop 4 bytes); shape = columns_of (get_or bytes 22 0) (drop 23 bytes) }

-- the table that the bytes of a row of the catalogue say, none where they are no such row
unfoldable pub entry_of : List ℕ → Option Entry
entry_of bytes = if is_entry (read_entry bytes) && pointwise nat_eq (entry_bytes (read_entry bytes)) bytes then Some (read_entry bytes) else None
