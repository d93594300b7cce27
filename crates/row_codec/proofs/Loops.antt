-- Rows read and written column by column.
use Rattle.std.proofs.Common.{◌≡◌, ◌∙◌, refl, sym, ap, subst, ℕ, ◌+◌, ◌<◌, ◌≤◌, true, List, [], ◌∷◌, ◌++◌, length, get_or, take, drop, Option, Some, None, append_assoc, arith}
use Rattle.std.specs.Prelude.{nat_le}
use Rattle.std.proofs.lemmas.Bool.{and_parts, le-leb, lt-leb, cond-true, cond-false}
use Rattle.std.proofs.lemmas.List.{append-nil, drop_more, drop_all, take_all}
use Rattle.std.proofs.lemmas.List.Elements.{All-from_recursion, recursion_from_All, All-more}
use Rattle.ids_base.specs.declared.value.Value.{Value}
use Rattle.ids_base.specs.declared.shape.Column.{Column}
use Rattle.ids_base.specs.Shapes.{Row, Shape, is_of_kind, is_row_of, size_of, row_length}
use Rattle.ids_base.specs.RowBytes.{HasRowLength}
use Rattle.row_codec.specs.Premises.{IsTextIfAny, HasTexts}
use Rattle.row_codec.specs.Rows.{value_bytes, value_of, joined, row_bytes, row_of}
use Rattle.row_codec.proofs.Lengths.{drop_at_column}
use Rattle.row_codec.proofs.RowBytes.{length-row_bytes, row-read}

drop_at_value : (values : Row) (i : ℕ) (v : Value) → i < length values → ((d : Value) → v ≡ get_or values i d) → drop i values ≡ v ∷ drop (i + 1) values
drop_at_value values i v lt is = drop_more values i v lt ∙ ap (λ (x : Value). x ∷ drop (i + 1) values) (sym (is v))

-- ---- writing

-- what is written of a row up to a column, and what holds of the rest
pub record Writes (start now : List ℕ) (columns : Shape) (values : Row) (i : ℕ) : Type 0 where
  pub bytes_are : now ++ row_bytes (drop i columns) (drop i values) ≡ start ++ row_bytes columns values
  pub rest_is : is_row_of (drop i columns) (drop i values) ≡ true
  pub texts_are : HasTexts (take i values)

pub writes_first : (start : List ℕ) (columns : Shape) (values : Row) → is_row_of columns values ≡ true → Writes start start columns values 0
writes_first start columns values is = record { bytes_are = refl; rest_is = is; texts_are = tt }

-- column and value at a place
pub record At (columns : Shape) (values : Row) (i : ℕ) (c : Column) (v : Value) : Type 0 where
  pub columns_are : drop i columns ≡ c ∷ drop (i + 1) columns
  pub values_are : drop i values ≡ v ∷ drop (i + 1) values
  pub within : i < length values
  pub value_is : (d : Value) → v ≡ get_or values i d

pub at_place : (columns : Shape) (values : Row) (i : ℕ) (c : Column) (v : Value) → (i < length columns) × (i < length values) × ((d : Column) → c ≡ get_or columns i d) × ((d : Value) → v ≡ get_or values i d) → At columns values i c v
at_place columns values i c v h = record {
  columns_are = drop_at_column columns i c h.0 (h.2 c);
  values_are = drop_at_value values i v h.1 h.3;
  within = h.1;
  value_is = h.3;
}

pub kind_there : (start now : List ℕ) (columns : Shape) (values : Row) (i : ℕ) (c : Column) (v : Value) → Writes start now columns values i → At columns values i c v → is_of_kind c.kind v ≡ true
kind_there start now columns values i c v w at =
    let both : is_row_of (c ∷ drop (i + 1) columns) (v ∷ drop (i + 1) values) ≡ true = subst (λ (cs : Shape). is_row_of cs (v ∷ drop (i + 1) values) ≡ true) at.columns_are (subst (λ (vs : Row). is_row_of (drop i columns) vs ≡ true) at.values_are w.rest_is) in
    (and_parts _ _ both).0

pub writes_more : (start now next : List ℕ) (columns : Shape) (values : Row) (i : ℕ) (c : Column) (v : Value) → Writes start now columns values i → At columns values i c v → next ≡ now ++ value_bytes c.kind v → IsTextIfAny v → Writes start next columns values (i + 1)
writes_more start now next columns values i c v w at is text =
    let rest = row_bytes (drop (i + 1) columns) (drop (i + 1) values) in
    let here : row_bytes (drop i columns) (drop i values) ≡ value_bytes c.kind v ++ rest = ap (λ (cs : Shape). row_bytes cs (drop i values)) at.columns_are ∙ ap (λ (vs : Row). row_bytes (c ∷ drop (i + 1) columns) vs) at.values_are in
    let both : is_row_of (c ∷ drop (i + 1) columns) (v ∷ drop (i + 1) values) ≡ true = subst (λ (cs : Shape). is_row_of cs (v ∷ drop (i + 1) values) ≡ true) at.columns_are (subst (λ (vs : Row). is_row_of (drop i columns) vs ≡ true) at.values_are w.rest_is) in
    record {
      bytes_are = ap (λ (b : List ℕ). b ++ rest) is ∙ append_assoc now (value_bytes c.kind v) rest ∙ ap (λ (b : List ℕ). now ++ b) (sym here) ∙ w.bytes_are;
      rest_is = (and_parts _ _ both).1;
      texts_are = recursion_from_All IsTextIfAny (take (i + 1) values) (All-more IsTextIfAny values i v at.within (All-from_recursion IsTextIfAny (take i values) w.texts_are) (subst IsTextIfAny (at.value_is v) text));
    }

pub all_written : (start now : List ℕ) (columns : Shape) (values : Row) (i : ℕ) → length columns ≤ i → Writes start now columns values i → now ≡ start ++ row_bytes columns values
all_written start now columns values i le w =
    let none : row_bytes (drop i columns) (drop i values) ≡ [] = ap (λ (cs : Shape). row_bytes cs (drop i values)) (drop_all i columns le) in
    sym (ap (λ (b : List ℕ). now ++ b) none ∙ append-nil now) ∙ w.bytes_are

pub all_texts : (start now : List ℕ) (columns : Shape) (values : Row) (i : ℕ) → length values ≤ i → Writes start now columns values i → HasTexts values
all_texts start now columns values i le w = subst HasTexts (take_all i values le) w.texts_are

-- ---- reading

-- values before the others of a row
abbrev pub prepended : Row → Option Row → Option Row
prepended front None = None
prepended front (Some vs) = Some (front ++ vs)

pub prepended-nil : (others : Option Row) → prepended [] others ≡ others
prepended-nil None = refl
prepended-nil (Some vs) = refl

prepended-joined : (front : Row) (v : Value) (others : Option Row) → prepended front (joined (Some v) others) ≡ prepended (front ++ v ∷ []) others
prepended-joined front v None = refl
prepended-joined front v (Some vs) = ap (λ (r : Row). Some r) (sym (append_assoc front (v ∷ []) vs))

row_of_at : (c : Column) (cs : Shape) (rest : List ℕ) → size_of c.kind ≤ length rest → row_of (c ∷ cs) rest ≡ joined (value_of c.kind (take (size_of c.kind) rest)) (row_of cs (drop (size_of c.kind) rest))
row_of_at c cs rest le = cond-true (nat_le (size_of c.kind) (length rest)) (joined (value_of c.kind (take (size_of c.kind) rest)) (row_of cs (drop (size_of c.kind) rest))) None (le-leb _ _ le)

-- what is read so far, and what is still to be read, are the row that is read in all
abbrev pub Reads : Shape → List ℕ → Row → ℕ → Option Row → Type 0
Reads columns rest row i all = prepended row (row_of (drop i columns) rest) ≡ all

pub read_more : (columns : Shape) (rest : List ℕ) (row : Row) (i : ℕ) (all : Option Row) (c : Column) (v : Value) → i < length columns → c ≡ get_or columns i c → size_of c.kind ≤ length rest → Some v ≡ value_of c.kind (take (size_of c.kind) rest) → Reads columns rest row i all → Reads columns (drop (size_of c.kind) rest) (row ++ v ∷ []) (i + 1) all
read_more columns rest row i all c v lt is le first so_far =
    let others = row_of (drop (i + 1) columns) (drop (size_of c.kind) rest) in
    let here : row_of (drop i columns) rest ≡ joined (Some v) others = ap (λ (cs : Shape). row_of cs rest) (drop_at_column columns i c lt is) ∙ row_of_at c (drop (i + 1) columns) rest le ∙ ap (λ (o : Option Value). joined o others) (sym first) in
    sym (ap (prepended row) here ∙ prepended-joined row v others) ∙ so_far

-- the same, from what the calls of one turn say
pub read_next : (columns : Shape) (rest : List ℕ) (row : Row) (i : ℕ) (all : Option Row) (c : Column) (v : Value) (front behind : List ℕ) (next : Row) (size : ℕ) → i < length columns → c ≡ get_or columns i c → size ≡ size_of c.kind
    → (size ≤ length rest) × (front ≡ take size rest) × (behind ≡ drop size rest) × (length front ≡ size) × (length behind + size ≡ length rest) → Some v ≡ value_of c.kind front → next ≡ row ++ v ∷ [] → Reads columns rest row i all → Reads columns behind next (i + 1) all
read_next columns rest row i all c v front behind next size lt is size_is split value next_is so_far =
    let le : size_of c.kind ≤ length rest = omega (arith, split.0) in
    let front_is : front ≡ take (size_of c.kind) rest = split.1 ∙ ap (λ (k : ℕ). take k rest) size_is in
    let behind_is : behind ≡ drop (size_of c.kind) rest = split.2 ∙ ap (λ (k : ℕ). drop k rest) size_is in
    ap (λ (b : List ℕ). prepended next (row_of (drop (i + 1) columns) b)) behind_is ∙ ap (λ (r : Row). prepended r (row_of (drop (i + 1) columns) (drop (size_of c.kind) rest))) next_is
    ∙ read_more columns rest row i all c v lt is le (value ∙ ap (λ (b : List ℕ). value_of c.kind b) front_is) so_far

pub read_no_value : (columns : Shape) (rest : List ℕ) (row : Row) (i : ℕ) (all : Option Row) (c : Column) → i < length columns → c ≡ get_or columns i c → size_of c.kind ≤ length rest → None ≡ value_of c.kind (take (size_of c.kind) rest) → Reads columns rest row i all → None ≡ all
read_no_value columns rest row i all c lt is le first so_far =
    let others = row_of (drop (i + 1) columns) (drop (size_of c.kind) rest) in
    let here : row_of (drop i columns) rest ≡ None = ap (λ (cs : Shape). row_of cs rest) (drop_at_column columns i c lt is) ∙ row_of_at c (drop (i + 1) columns) rest le ∙ ap (λ (o : Option Value). joined o others) (sym first) in
    sym (ap (prepended row) here) ∙ so_far

pub read_too_few : (columns : Shape) (rest : List ℕ) (row : Row) (i : ℕ) (all : Option Row) (c : Column) → i < length columns → c ≡ get_or columns i c → length rest < size_of c.kind → Reads columns rest row i all → None ≡ all
read_too_few columns rest row i all c lt is few so_far =
    let cs = drop (i + 1) columns in
    let none : row_of (c ∷ cs) rest ≡ None = cond-false (nat_le (size_of c.kind) (length rest)) (joined (value_of c.kind (take (size_of c.kind) rest)) (row_of cs (drop (size_of c.kind) rest))) None (lt-leb _ _ few) in
    let here : row_of (drop i columns) rest ≡ None = ap (λ (cs : Shape). row_of cs rest) (drop_at_column columns i c lt is) ∙ none in
    sym (ap (prepended row) here) ∙ so_far

-- what the bytes behind the last column say
pub rest_of_row : List ℕ → Row → Option Row
rest_of_row [] row = Some row
rest_of_row (b ∷ rest) row = None

read_rest : (rest : List ℕ) (row : Row) → prepended row (row_of [] rest) ≡ rest_of_row rest row
unfolding rest_of_row
read_rest [] row = ap (λ (r : Row). Some r) (append-nil row)
read_rest (b ∷ rest) row = refl

read_end : (columns : Shape) (rest : List ℕ) (row : Row) (i : ℕ) (all : Option Row) → length columns ≤ i → Reads columns rest row i all → rest_of_row rest row ≡ all
read_end columns rest row i all le so_far = sym (ap (λ (cs : Shape). prepended row (row_of cs rest)) (drop_all i columns le) ∙ read_rest rest row) ∙ so_far

pub read_whole : (columns : Shape) (rest : List ℕ) (row : Row) (i : ℕ) (all : Option Row) → length columns ≤ i → rest ≡ [] → Reads columns rest row i all → Some row ≡ all
unfolding rest_of_row
read_whole columns rest row i all le is so_far = sym (ap (λ (b : List ℕ). rest_of_row b row) is) ∙ read_end columns rest row i all le so_far

pub read_too_many : (columns : Shape) (rest : List ℕ) (row : Row) (i : ℕ) (all : Option Row) → length columns ≤ i → (rest ≡ [] → ⊥) → Reads columns rest row i all → None ≡ all
unfolding rest_of_row
read_too_many columns [] row i all le more so_far = absurd (more refl)
read_too_many columns (b ∷ rest) row i all le more so_far = read_end columns (b ∷ rest) row i all le so_far

-- ---- the whole row

pub row_written : (before now : List ℕ) (columns shape : Shape) (values row : Row) → before ≡ [] → now ≡ before ++ row_bytes columns values → columns ≡ shape → values ≡ row → now ≡ row_bytes shape row
row_written before now columns shape values row none is same also = is ∙ ap (λ (b : List ℕ). b ++ row_bytes columns values) none ∙ ap (λ (cs : Shape). row_bytes cs values) same ∙ ap (λ (vs : Row). row_bytes shape vs) also

pub row_has_length : (bytes : List ℕ) (shape : Shape) (row : Row) → bytes ≡ row_bytes shape row → is_row_of shape row ≡ true → length bytes ≡ row_length shape
row_has_length bytes shape row is good = ap (λ (b : List ℕ). length b) is ∙ length-row_bytes shape row good

pub row_has_row_length : (bytes : List ℕ) (shape : Shape) (row : Row) → bytes ≡ row_bytes shape row → is_row_of shape row ≡ true → 1 ≤ row_length shape → row_length shape ≤ 800 → HasRowLength bytes
row_has_row_length bytes shape row is good least most =
    let long = row_has_length bytes shape row is good in
    record { some = omega arith; few = omega arith }

pub row_again : (bytes : List ℕ) (shape : Shape) (values row : Row) → bytes ≡ row_bytes shape row → is_row_of shape row ≡ true → values ≡ row → HasTexts values → row_of shape bytes ≡ Some row
row_again bytes shape values row is good same texts = ap (row_of shape) is ∙ row-read shape row good (subst HasTexts same texts)
