-- A value and the bytes of its column stand for one another.
use Rattle.std.proofs.Common.{◌≡◌, ◌∙◌, refl, ap, subst, ℕ, ◌-◌, ◌^◌, ◌<◌, ◌≤◌, true, List, ◌++◌, length, replicate, Some, None, arith}
use Rattle.std.specs.Prelude.{ℤ, pos, negsuc}
use Rattle.std.specs.Int.{w32, to_be_bytes, from_be_bytes, cast_unsigned, cast_signed}
use mir.Val.{SFits}
use Rattle.std.proofs.lemmas.Bool.{ltb-false, not-true, and_parts, le-leb, leb-true, cond-true}
use Rattle.std.proofs.lemmas.Int.{to_z-of_z, of_z-to_z}
use Rattle.std.proofs.lemmas.List.{length-append, length-replicate}
use Rattle.std.proofs.lemmas.Nat.{be_bytes_4, from_be_bytes-to_be_bytes_4}
use Rattle.std.proofs.lemmas.Option.{cond_some}
use Rattle.ids_base.specs.declared.value.Value.{Value}
use Rattle.ids_base.specs.declared.value.Value.TheVariants.{Int, Chars}
use Rattle.ids_base.specs.declared.shape.Kind.{Kind}
use Rattle.ids_base.specs.declared.shape.Kind.TheVariants.{Integer, Char}
use Rattle.ids_base.specs.Texts.{is_printable_text, trimmed, IsText}
use Rattle.ids_base.specs.Shapes.{is_integer, is_of_kind, size_of}
use Rattle.ids_base.proofs.Trimming.{text-trimmed}
use Rattle.row_codec.specs.Premises.{IsBytes, IsTextIfAny}
use Rattle.row_codec.specs.Rows.{int_bytes, int_of, value_bytes, value_of}
use Rattle.row_codec.proofs.Spaces.{trimmed-append-spaces, printable-append-spaces, length-trimmed-le, trimmed-filled}

integer-fits : (n : ℤ) → is_integer n ≡ true → SFits w32 n
integer-fits (pos k) is = let le : k ≤ 2147483647 = ltb-false _ _ (not-true _ is) in record { sfits = omega arith }
integer-fits (negsuc k) is = let le : k ≤ 2147483646 = ltb-false _ _ (not-true _ (and_parts _ _ is).0) in record { sfits = omega arith }

integer-below : (n : ℤ) → is_integer n ≡ true → cast_unsigned w32 n < 2 ^ 32
integer-below (pos k) is = let le : k ≤ 2147483647 = ltb-false _ _ (not-true _ is) in omega arith
integer-below (negsuc k) is = omega arith

-- what column and value have in common
pub record IsSpelled (kind : Kind) (bytes : List ℕ) (v : Value) : Type 0 where
  pub kind_is : is_of_kind kind v ≡ true
  pub text_is : IsTextIfAny v
  pub bytes_are : value_bytes kind v ≡ bytes

integer-spelled : (bytes : List ℕ) (v : Value) → IsBytes bytes → length bytes ≡ 4 → value_of Integer bytes ≡ Some v → IsSpelled Integer bytes v
integer-spelled bytes v are len e =
    let m = from_be_bytes w32 bytes in
    let n = cast_signed w32 m in
    let t = cond_some (is_integer n) (Int n) v e in
    let lt : m < 2 ^ 32 = omega (arith, are.below 0, are.below 1, are.below 2, are.below 3) in
    let same : int_bytes n ≡ bytes = ap (to_be_bytes w32) (of_z-to_z w32 m lt) ∙ be_bytes_4 bytes m len are.below refl in
    subst (IsSpelled Integer bytes) t.1 (record { kind_is = t.0; text_is = tt; bytes_are = same })

text-spelled : (size : ℕ) (bytes : List ℕ) (v : Value) → length bytes ≡ size → value_of (Char size) bytes ≡ Some v → IsSpelled (Char size) bytes v
text-spelled size bytes v len e =
    let t = cond_some (is_printable_text bytes) (Chars (trimmed bytes)) v e in
    let short : length (trimmed bytes) ≤ size = omega (arith, length-trimmed-le bytes) in
    subst (IsSpelled (Char size) bytes) t.1 (record { kind_is = le-leb _ _ short; text_is = text-trimmed bytes t.0; bytes_are = trimmed-filled bytes size len })

-- a value that is read is of the column's kind, and spelled by these bytes
pub value-spelled : (kind : Kind) (bytes : List ℕ) (v : Value) → IsBytes bytes → length bytes ≡ size_of kind → value_of kind bytes ≡ Some v → IsSpelled kind bytes v
value-spelled Integer bytes v are len e = integer-spelled bytes v are len e
value-spelled (Char size) bytes v are len e = text-spelled size bytes v len e

integer-read : (n : ℤ) → is_integer n ≡ true → value_of Integer (int_bytes n) ≡ Some (Int n)
integer-read n is =
    let back : cast_signed w32 (from_be_bytes w32 (to_be_bytes w32 (cast_unsigned w32 n))) ≡ n = ap (cast_signed w32) (from_be_bytes-to_be_bytes_4 (cast_unsigned w32 n) (integer-below n is)) ∙ to_z-of_z w32 n (integer-fits n is) in
    ap int_of back ∙ cond-true (is_integer n) (Some (Int n)) None is

text-read : (size : ℕ) (text : List ℕ) → IsText text → value_of (Char size) (text ++ replicate (size - length text) 32) ≡ Some (Chars text)
text-read size text is =
    let bytes = text ++ replicate (size - length text) 32 in
    cond-true (is_printable_text bytes) (Some (Chars (trimmed bytes))) None (printable-append-spaces text (size - length text) is.printable)
    ∙ ap (λ (t : List ℕ). Some (Chars t)) (trimmed-append-spaces text (size - length text) ∙ is.ends)

-- the bytes of a value are read as that value
pub value-read : (kind : Kind) (v : Value) → is_of_kind kind v ≡ true → IsTextIfAny v → value_of kind (value_bytes kind v) ≡ Some v
value-read Integer (Int n) is text = integer-read n is
value-read Integer (Chars t) is text = absurd cc
value-read (Char size) (Int n) is text = absurd cc
value-read (Char size) (Chars t) is text = text-read size t text

-- the bytes of a value fill its column
pub length-value_bytes : (kind : Kind) (v : Value) → is_of_kind kind v ≡ true → length (value_bytes kind v) ≡ size_of kind
length-value_bytes Integer (Int n) is = refl
length-value_bytes Integer (Chars t) is = absurd cc
length-value_bytes (Char size) (Int n) is = absurd cc
length-value_bytes (Char size) (Chars t) is = omega (arith, leb-true (length t) size is, length-append t (replicate (size - length t) 32), length-replicate {A = ℕ} (size - length t) 32)
