-- Which item is the first of some.
use Rattle.std.specs.Prelude.{◌≡◌, Bool, false, Option, Some, None, IfSome, List}
use Rattle.std.specs.List.{All, Contains, filter}

-- the items that an item comes before; all, where there is none
abbrev pub behind : {X : Type 0} → (X → X → Bool) → Option X → List X → List X
behind before None xs = xs
behind before (Some x) xs = filter (before x) xs

-- there is a first, and x does not come before it
abbrev pub IsNotBefore : {X : Type 0} → (X → X → Bool) → Option X → X → Type 0
IsNotBefore before None x = ⊥
IsNotBefore before (Some first) x = before x first ≡ false

-- it is among these, and none of them comes before it; there is none exactly where these are none
pub record IsLeast {X : Type 0} (before : X → X → Bool) (xs : List X) (first : Option X) : Type 0 where
  pub among : IfSome first (Contains xs)
  pub least : All (IsNotBefore before first) xs
