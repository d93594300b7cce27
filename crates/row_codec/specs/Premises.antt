-- What the laws of rows and their bytes ask.
use Rattle.std.specs.Prelude.{ℕ, ◌<◌, List, get_or}
use Rattle.std.specs.List.{AllByRecursion}
use Rattle.ids_base.specs.declared.value.Value.{Value}
use Rattle.ids_base.specs.declared.value.Value.TheVariants.{Int, Chars}
use Rattle.ids_base.specs.Texts.{IsText}
use Rattle.ids_base.specs.Shapes.{Row}

-- each number of the list is a byte
pub record IsBytes (bytes : List ℕ) : Type 0 where
  pub below : (i : ℕ) → get_or bytes i 0 < 256

-- a value that is a text is printable, and no space is at its end
abbrev pub IsTextIfAny : Value → Type 0
IsTextIfAny (Int n) = Unit {0}
IsTextIfAny (Chars text) = IsText text

-- each text of a row is printable, and no space is at its end
abbrev pub HasTexts : Row → Type 0
HasTexts row = AllByRecursion IsTextIfAny row
