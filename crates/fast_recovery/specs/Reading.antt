-- Maps that are read in the order of their keys, and the names of tables by number.
use Rattle.std.specs.Prelude.{◌≡◌, ◌<◌, ℕ, ◌==◌, Bool, true, if◌then◌else◌, List, [], ◌∷◌, Option, Some, None, option_and_then}
use Rattle.std.specs.FinMap as map
use Rattle.std.specs.FinMap.{find}
use Rattle.std.specs.Ordering.{nat_cmp}
use Rattle.ids_base.specs.Shapes.{row_length, is_shape}
use Rattle.ids_model.specs.Tables.{Shape, Name, Tables, shape_at}
use Rattle.ids_model.specs.Slots.{Own, Slots}
use Rattle.ids_model.specs.Stands.{IsCatalogued}

-- the name of each table, by number
abbrev pub Names : Type 0
Names = map.FinMap nat_cmp Name

module _ {V : Type 0} where
  -- a key is read where it is not among the rest
  abbrev pub IsRead : List (ℕ × V) → ℕ → Type 0
  IsRead rest key = find nat_cmp key rest ≡ None

  -- the keys of a map that are read are less than a key
  abbrev pub AreReadBefore : map.FinMap nat_cmp V → List (ℕ × V) → ℕ → Type 0
  AreReadBefore m rest key = (q : ℕ) (v : V) → map.get m q ≡ Some v → IsRead rest q → q < key

  -- entries of a map, each with a key of its own, in the order of the keys and behind those that are read
  abbrev pub AreEntries : map.FinMap nat_cmp V → List (ℕ × V) → Type 0
  AreEntries m [] = Unit {0}
  AreEntries m (e ∷ es) = (map.get m e.0 ≡ Some e.1) × IsRead es e.0 × AreEntries m es × AreReadBefore m (e ∷ es) e.0

-- exactly the numbers of the catalogue have names, and those that the catalogue says
pub record AreNames (own : Own) (slots : Slots) (names : Names) : Type 0 where
  pub said : (number : ℕ) (name : Name) → map.get names number ≡ Some name → (shape : Shape) × IsCatalogued own slots number name shape
  pub all : (number : ℕ) (name : Name) (shape : Shape) → IsCatalogued own slots number name shape → map.get names number ≡ Some name

-- each table has a shape that a table can have
abbrev pub HaveGoodShapes : Tables → Type 0
HaveGoodShapes T = (name : Name) (shape : Shape) → shape_at T name ≡ Some shape → is_shape shape ≡ true

-- whether rows of a shape, if there is one, have a length
abbrev pub has_length : ℕ → Option Shape → Bool
has_length length None = true
has_length length (Some shape) = row_length shape == length

-- whether a page may have an owner: pages of table 1 have its row length, and those of a table with a name its shape's row length
abbrev pub may_own : Tables → Names → ℕ × ℕ → Bool
may_own T names owner = if owner.0 == 1 then owner.1 == 359 else has_length owner.1 (option_and_then (shape_at T) (map.get names owner.0))
