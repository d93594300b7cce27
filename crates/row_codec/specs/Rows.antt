-- The bytes of a row, and the row that bytes say.
use Rattle.std.specs.Prelude.{ℕ, ℤ, ◌-◌, if◌then◌else◌, List, [], ◌∷◌, ◌++◌, length, take, drop, nat_le, replicate, Option, Some, None}
use Rattle.std.specs.Int.{w32, to_be_bytes, from_be_bytes, cast_unsigned, cast_signed}
use Rattle.ids_base.specs.declared.value.Value.{Value}
use Rattle.ids_base.specs.declared.value.Value.TheVariants.{Int, Chars}
use Rattle.ids_base.specs.declared.shape.Kind.{Kind}
use Rattle.ids_base.specs.declared.shape.Kind.TheVariants.{Integer, Char}
use Rattle.ids_base.specs.Texts.{is_printable_text, trimmed}
use Rattle.ids_base.specs.Shapes.{Row, Shape, is_integer, size_of}

-- four bytes, the highest first, of a number in two's complement
abbrev pub int_bytes : ℤ → List ℕ
int_bytes n = to_be_bytes w32 (cast_unsigned w32 n)

-- a text filled with spaces up to the column's size
abbrev pub text_bytes : ℕ → List ℕ → List ℕ
text_bytes size text = text ++ replicate (size - length text) 32

-- the bytes of a value in its column
abbrev pub value_bytes : Kind → Value → List ℕ
value_bytes Integer (Int n) = int_bytes n
value_bytes Integer (Chars text) = []
value_bytes (Char size) (Int n) = []
value_bytes (Char size) (Chars text) = text_bytes size text

-- a row is its columns one after another
abbrev pub row_bytes : Shape → Row → List ℕ
row_bytes [] vs = []
row_bytes (c ∷ cs) [] = []
row_bytes (c ∷ cs) (v ∷ vs) = value_bytes c.kind v ++ row_bytes cs vs

-- the number of four bytes, unless it is the least one, which is no value
abbrev pub int_of : ℤ → Option Value
int_of n = if is_integer n then Some (Int n) else None

-- the value that the bytes of a column say: a CHAR is printable, and the text is without the spaces at its end
abbrev pub value_of : Kind → List ℕ → Option Value
value_of Integer bytes = int_of (cast_signed w32 (from_be_bytes w32 bytes))
value_of (Char size) bytes = if is_printable_text bytes then Some (Chars (trimmed bytes)) else None

-- a value before the others of a row
abbrev pub joined : Option Value → Option Row → Option Row
joined None row = None
joined (Some v) None = None
joined (Some v) (Some vs) = Some (v ∷ vs)

-- the row that bytes say in a shape, none where they are no row of it
abbrev pub row_of : Shape → List ℕ → Option Row
row_of [] [] = Some []
row_of [] (b ∷ bytes) = None
row_of (c ∷ cs) bytes =
    if nat_le (size_of c.kind) (length bytes) then joined (value_of c.kind (take (size_of c.kind) bytes)) (row_of cs (drop (size_of c.kind) bytes)) else None
