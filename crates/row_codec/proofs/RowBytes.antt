-- A row and its bytes stand for one another.
use Rattle.std.proofs.Common.{◌≡◌, ◌∙◌, refl, sym, ap, subst, ℕ, ◌≤◌, true, List, [], ◌∷◌, ◌++◌, length, take, drop, Option, Some, None, arith}
use Rattle.std.specs.Prelude.{nat_le}
use Rattle.std.proofs.lemmas.Bool.{and_parts, and_from, le-leb, leb-true}
use Rattle.std.proofs.lemmas.List.{length-append, length-drop, length-take-le, take-append-drop, take_at, drop_at}
use Rattle.std.proofs.lemmas.Option.{same_Some}
use Rattle.ids_base.specs.declared.value.Value.{Value}
use Rattle.ids_base.specs.declared.shape.Column.{Column}
use Rattle.ids_base.specs.Shapes.{Row, Shape, is_row_of, size_of, row_length}
use Rattle.row_codec.specs.Premises.{IsBytes, HasTexts}
use Rattle.row_codec.specs.Rows.{value_bytes, value_of, joined, row_bytes, row_of}
use Rattle.row_codec.proofs.Bytes.{IsBytes-drop, IsBytes-take, passed}
use Rattle.row_codec.proofs.Values.{value-spelled, value-read, length-value_bytes}
use Rattle.row_codec.proofs.Lengths.{row_length-cons}

-- what a first value and the others are, where they are joined
record Parts (first : Option Value) (others : Option Row) (row : Row) : Type 0 where
  v : Value
  vs : Row
  first_is : first ≡ Some v
  others_are : others ≡ Some vs
  row_is : v ∷ vs ≡ row

parts : (first : Option Value) (others : Option Row) (row : Row) → joined first others ≡ Some row → Parts first others row
parts None others row e = absurd cc
parts (Some v) None row e = absurd cc
parts (Some v) (Some vs) row e = record { v = v; vs = vs; first_is = refl; others_are = refl; row_is = same_Some (v ∷ vs) row e }

-- what is read of a first column and of the others
record Read (c : Column) (cs : Shape) (bytes : List ℕ) (row : Row) : Type 0 where
  fits : size_of c.kind ≤ length bytes
  parts_are : Parts (value_of c.kind (take (size_of c.kind) bytes)) (row_of cs (drop (size_of c.kind) bytes)) row

read : (c : Column) (cs : Shape) (bytes : List ℕ) (row : Row) → row_of (c ∷ cs) bytes ≡ Some row → Read c cs bytes row
read c cs bytes row e =
    let first = value_of c.kind (take (size_of c.kind) bytes) in
    let others = row_of cs (drop (size_of c.kind) bytes) in
    let p = passed (nat_le (size_of c.kind) (length bytes)) (joined first others) row e in
    record { fits = leb-true _ _ p.0; parts_are = parts first others row p.1 }

-- bytes that are a row have the row's length
pub row_of-length : (shape : Shape) (bytes : List ℕ) (row : Row) → row_of shape bytes ≡ Some row → length bytes ≡ row_length shape
row_of-length [] [] row e = refl
row_of-length [] (b ∷ bytes) row e = absurd cc
row_of-length (c ∷ cs) bytes row e =
    let r = read c cs bytes row e in
    let rest = row_of-length cs (drop (size_of c.kind) bytes) r.parts_are.vs r.parts_are.others_are in
    omega (arith, r.fits, rest, row_length-cons c cs, length-drop (size_of c.kind) bytes)

-- what is read is a row of the shape, spelled by these bytes
abbrev pub Spells : Shape → List ℕ → Row → Type 0
Spells shape bytes row = (is_row_of shape row ≡ true) × HasTexts row × (bytes ≡ row_bytes shape row)

pub row-spelled : (shape : Shape) (bytes : List ℕ) (row : Row) → IsBytes bytes → row_of shape bytes ≡ Some row → Spells shape bytes row
row-spelled [] [] row are e = subst (Spells [] []) (same_Some [] row e) (refl, tt, refl)
row-spelled [] (b ∷ bytes) row are e = absurd cc
row-spelled (c ∷ cs) bytes row are e =
    let r = read c cs bytes row e in
    let size = size_of c.kind in
    let p = r.parts_are in
    let front = value-spelled c.kind (take size bytes) p.v (IsBytes-take size bytes are) (length-take-le size bytes r.fits) p.first_is in
    let rest = row-spelled cs (drop size bytes) p.vs (IsBytes-drop size bytes are) p.others_are in
    let same : bytes ≡ value_bytes c.kind p.v ++ row_bytes cs p.vs = sym (take-append-drop size bytes) ∙ ap (λ (x : List ℕ). x ++ drop size bytes) (sym front.bytes_are) ∙ ap (λ (x : List ℕ). value_bytes c.kind p.v ++ x) rest.2 in
    subst (Spells (c ∷ cs) bytes) p.row_is (and_from _ _ front.kind_is rest.0, (front.text_is, rest.1), same)

-- a column that is read, and the others
pub row_of-cons : (c : Column) (cs : Shape) (front rest : List ℕ) (v : Value) (vs : Row) → length front ≡ size_of c.kind → value_of c.kind front ≡ Some v → row_of cs rest ≡ Some vs → row_of (c ∷ cs) (front ++ rest) ≡ Some (v ∷ vs)
row_of-cons c cs front rest v vs len first others =
    let fits : nat_le (size_of c.kind) (length (front ++ rest)) ≡ true = le-leb _ _ (omega (arith, length-append front rest)) in
    rw (fits, take_at front rest (size_of c.kind) len, drop_at front rest (size_of c.kind) len, first, others) refl

-- the bytes of a row are read as that row
pub row-read : (shape : Shape) (row : Row) → is_row_of shape row ≡ true → HasTexts row → row_of shape (row_bytes shape row) ≡ Some row
row-read [] [] is texts = refl
row-read [] (v ∷ vs) is texts = absurd cc
row-read (c ∷ cs) [] is texts = absurd cc
row-read (c ∷ cs) (v ∷ vs) is texts =
    let a = and_parts _ _ is in
    row_of-cons c cs (value_bytes c.kind v) (row_bytes cs vs) v vs (length-value_bytes c.kind v a.0) (value-read c.kind v a.0 texts.0) (row-read cs vs a.1 texts.1)

-- the bytes of a row have its length
pub length-row_bytes : (shape : Shape) (row : Row) → is_row_of shape row ≡ true → length (row_bytes shape row) ≡ row_length shape
length-row_bytes [] [] is = refl
length-row_bytes [] (v ∷ vs) is = absurd cc
length-row_bytes (c ∷ cs) [] is = absurd cc
length-row_bytes (c ∷ cs) (v ∷ vs) is =
    let a = and_parts _ _ is in
    omega (arith, length-append (value_bytes c.kind v) (row_bytes cs vs), length-value_bytes c.kind v a.0, length-row_bytes cs vs a.1, row_length-cons c cs)

-- as many values as columns
pub row-long : (shape : Shape) (row : Row) → is_row_of shape row ≡ true → length row ≡ length shape
row-long [] [] is = refl
row-long [] (v ∷ vs) is = absurd cc
row-long (c ∷ cs) [] is = absurd cc
row-long (c ∷ cs) (v ∷ vs) is = omega (arith, row-long cs vs (and_parts _ _ is).1)
