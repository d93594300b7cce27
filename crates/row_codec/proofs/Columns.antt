-- The columns in a row of the catalogue.
use Rattle.std.proofs.Common.{◌≡◌, ◌∙◌, refl, sym, ap, ℕ, zero, suc, ◌+◌, ◌-◌, ◌*◌, ◌<◌, ◌≤◌, Bool, true, false, ◌==◌, not, cond, List, [], ◌∷◌, ◌++◌, length, take, drop, replicate, Some, None, append_assoc, arith}
use Rattle.std.specs.List.{list_all, flat_map, take_while, position, position_or_len}
use Rattle.std.specs.Option.{unwrap_or}
use Rattle.std.specs.Prelude.{nat_lt}
use Rattle.std.proofs.lemmas.Bool.{false≢true, ne_eqb, and_parts, and_from, and_left, and_right, lt-leb, ltb-false, or_left, leb-true, cond-true}
use Rattle.std.proofs.lemmas.List.{append-nil, length-append, length-drop, length-replicate, take_at, drop_at}
use Rattle.std.proofs.lemmas.List.Folds.{list_all-append}
use Rattle.std.proofs.lemmas.List.Sums.{take_while-cons, prefix_len-le-length}
use Rattle.std.proofs.lemmas.Nat.{from_be_bytes-to_be_bytes_2}
use Rattle.ids_base.specs.declared.shape.Kind.{Kind}
use Rattle.ids_base.specs.declared.shape.Kind.TheVariants.{Integer, Char}
use Rattle.ids_base.specs.declared.shape.Column.{Column}
use Rattle.ids_base.specs.Names.{is_name_byte, is_name}
use Rattle.ids_base.specs.Shapes.{Name, Shape, size_of, row_length}
use Rattle.row_codec.specs.Catalogue.{name_bytes, kind_bytes, column_bytes, name_of, kind_of, column_of, columns_of, are_columns}
use Rattle.row_codec.proofs.Lengths.{row_length-cons}

-- ---- names

abbrev is_nonzero : ℕ → Bool
is_nonzero b = not (b == 0)

name-byte-nonzero : (b : ℕ) → is_name_byte b ≡ true → is_nonzero b ≡ true
name-byte-nonzero zero is = absurd (false≢true is)
name-byte-nonzero (suc b) is = ap not (ne_eqb (suc b) 0 (λ (e : suc b ≡ 0). cc))

all-nonzero : (bytes : List ℕ) → list_all is_name_byte bytes ≡ true → list_all is_nonzero bytes ≡ true
all-nonzero [] is = refl
all-nonzero (b ∷ bytes) is = let p = and_parts _ _ is in and_from _ _ (name-byte-nonzero b p.0) (all-nonzero bytes p.1)

-- no byte of a name is zero
name-nonzero : (name : Name) → is_name name ≡ true → list_all is_nonzero name ≡ true
name-nonzero [] is = refl
name-nonzero (b ∷ bytes) is =
    let p = and_parts _ _ (and_parts _ _ is).1 in
    and_from _ _ (name-byte-nonzero b (or_left _ _ p.0)) (all-nonzero bytes p.1)

name-short : (name : Name) → is_name name ≡ true → length name ≤ 18
name-short [] is = omega arith
name-short (b ∷ bytes) is = omega (arith, leb-true (length bytes) 17 (and_parts _ _ is).0)

-- a name fills its field
pub length-name_bytes : (name : Name) → is_name name ≡ true → length (name_bytes name) ≡ 18
length-name_bytes name is = omega (arith, name-short name is, length-append name (replicate (18 - length name) 0), length-replicate {A = ℕ} (18 - length name) 0)

take_while-zeros : (name : List ℕ) (k : ℕ) → list_all is_nonzero name ≡ true → take_while is_nonzero (name ++ replicate k 0) ≡ name
take_while-zeros [] zero is = refl
take_while-zeros [] (suc k) is = refl
take_while-zeros (b ∷ name) k is =
    let p = and_parts _ _ is in
    take_while-cons is_nonzero b (name ++ replicate k 0) ∙ cond-true (is_nonzero b) (b ∷ take_while is_nonzero (name ++ replicate k 0)) [] p.0 ∙ ap (λ (x : List ℕ). b ∷ x) (take_while-zeros name k p.1)

-- the name in a field is read again
pub name_of-name_bytes : (name : Name) (rest : List ℕ) → is_name name ≡ true → name_of (name_bytes name ++ rest) ≡ name
name_of-name_bytes name rest is = ap (λ (x : List ℕ). take_while is_nonzero x) (take_at (name_bytes name) rest 18 (length-name_bytes name is)) ∙ take_while-zeros name (18 - length name) (name-nonzero name is)

-- ---- kinds and columns

kind_of-kind_bytes : (kind : Kind) → size_of kind ≤ 800 → kind_of (kind_bytes kind) ≡ kind
kind_of-kind_bytes Integer few = refl
kind_of-kind_bytes (Char size) few = ap (λ (n : ℕ). Char n) (from_be_bytes-to_be_bytes_2 size (omega arith))

length-kind_bytes : (kind : Kind) → length (kind_bytes kind) ≡ 3
length-kind_bytes Integer = refl
length-kind_bytes (Char size) = refl

pub length-column_bytes : (c : Column) → is_name c.name ≡ true → length (column_bytes c) ≡ 21
length-column_bytes c is = omega (arith, length-name_bytes c.name is, length-kind_bytes c.kind, length-append (name_bytes c.name) (kind_bytes c.kind))

abbrev made : Name → Kind → Column
made name kind = record { name = name; kind = kind }

pub column_of-column_bytes : (c : Column) (rest : List ℕ) → is_name c.name ≡ true → size_of c.kind ≤ 800 → column_of (column_bytes c ++ rest) ≡ c
column_of-column_bytes c rest is few =
    let n = name_bytes c.name in
    let k = kind_bytes c.kind in
    let regrouped : (n ++ k) ++ rest ≡ n ++ (k ++ rest) = append_assoc n k rest in
    let name : name_of ((n ++ k) ++ rest) ≡ c.name = ap (λ (x : List ℕ). name_of x) regrouped ∙ name_of-name_bytes c.name (k ++ rest) is in
    let behind : drop 18 (n ++ (k ++ rest)) ≡ k ++ rest = drop_at n (k ++ rest) 18 (length-name_bytes c.name is) in
    let kind : kind_of (take 3 (drop 18 ((n ++ k) ++ rest))) ≡ c.kind = ap (λ (x : List ℕ). kind_of (take 3 (drop 18 x))) regrouped ∙ ap (λ (x : List ℕ). kind_of (take 3 x)) behind ∙ ap kind_of (take_at k rest 3 (length-kind_bytes c.kind)) ∙ kind_of-kind_bytes c.kind few in
    ap (λ (x : Name). made x (kind_of (take 3 (drop 18 ((n ++ k) ++ rest))))) name ∙ ap (made c.name) kind

-- columns with names are read again
pub columns_of-column_bytes : (cs : Shape) (rest : List ℕ) → list_all (λ (c : Column). is_name c.name) cs ≡ true → row_length cs ≤ 800 → columns_of (length cs) (flat_map column_bytes cs ++ rest) ≡ cs
columns_of-column_bytes [] rest names few = refl
columns_of-column_bytes (c ∷ cs) rest names few =
    let p = and_parts _ _ names in
    let bytes = (column_bytes c ++ flat_map column_bytes cs) ++ rest in
    let behind = flat_map column_bytes cs ++ rest in
    let regrouped : bytes ≡ column_bytes c ++ behind = append_assoc (column_bytes c) (flat_map column_bytes cs) rest in
    let sizes = row_length-cons c cs in
    let first : column_of bytes ≡ c = ap column_of regrouped ∙ column_of-column_bytes c behind p.0 (omega arith) in
    let dropped : drop 21 bytes ≡ behind = ap (λ (x : List ℕ). drop 21 x) regrouped ∙ drop_at (column_bytes c) behind 21 (length-column_bytes c p.0) in
    let others : columns_of (length cs) (drop 21 bytes) ≡ cs = ap (columns_of (length cs)) dropped ∙ columns_of-column_bytes cs rest p.1 (omega arith) in
    ap (λ (x : Column). x ∷ columns_of (length cs) (drop 21 bytes)) first ∙ ap (λ (x : Shape). c ∷ x) others

pub length-columns_of : (n : ℕ) (bytes : List ℕ) → length (columns_of n bytes) ≡ n
length-columns_of zero bytes = refl
length-columns_of (suc n) bytes = ap suc (length-columns_of n (drop 21 bytes))

pub length-columns : (cs : Shape) → list_all (λ (c : Column). is_name c.name) cs ≡ true → length (flat_map column_bytes cs) ≡ 21 * length cs
length-columns [] names = refl
length-columns (c ∷ cs) names =
    let p = and_parts _ _ names in
    omega (arith, length-columns cs p.1, length-column_bytes c p.0, length-append (column_bytes c) (flat_map column_bytes cs))

-- ---- columns that are read one by one

pub more_columns : (front : Shape) (n i : ℕ) (rest : List ℕ) (all : Shape) → i < n → front ++ columns_of (n - i) rest ≡ all → (front ++ column_of rest ∷ []) ++ columns_of (n - (i + 1)) (drop 21 rest) ≡ all
more_columns front n i rest all lt so_far =
    let k : n - i ≡ suc (n - (i + 1)) = omega arith in
    let here : columns_of (n - i) rest ≡ column_of rest ∷ columns_of (n - (i + 1)) (drop 21 rest) = ap (λ (m : ℕ). columns_of m rest) k in
    append_assoc front (column_of rest ∷ []) (columns_of (n - (i + 1)) (drop 21 rest)) ∙ ap (λ (x : Shape). front ++ x) (sym here) ∙ so_far

pub all_columns : (front : Shape) (n i : ℕ) (rest : List ℕ) (all : Shape) → n ≤ i → front ++ columns_of (n - i) rest ≡ all → front ≡ all
all_columns front n i rest all le so_far =
    let k : n - i ≡ 0 = omega arith in
    sym (ap (λ (m : ℕ). front ++ columns_of m rest) k ∙ append-nil front) ∙ so_far

pub bad_column : (front : Shape) (n i : ℕ) (rest : List ℕ) (all : Shape) → i < n → front ++ columns_of (n - i) rest ≡ all → is_name (name_of rest) ≡ false → are_columns all ≡ false
bad_column front n i rest all lt so_far bad =
    let k : n - i ≡ suc (n - (i + 1)) = omega arith in
    let behind = columns_of (n - (i + 1)) (drop 21 rest) in
    let whole : all ≡ front ++ (column_of rest ∷ behind) = sym so_far ∙ ap (λ (m : ℕ). front ++ columns_of m rest) k in
    let test : Column → Bool = λ c. is_name c.name in
    let none : list_all test (front ++ (column_of rest ∷ behind)) ≡ false = list_all-append test front (column_of rest ∷ behind) ∙ and_right (list_all test front) (list_all test (column_of rest ∷ behind)) (and_left (is_name (name_of rest)) (list_all test behind) bad) in
    and_right _ _ (ap (λ (x : Shape). list_all test x) whole ∙ none)

pub too_many_columns : (n : ℕ) (bytes : List ℕ) → 16 < n → are_columns (columns_of n bytes) ≡ false
too_many_columns n bytes more = and_left _ _ (lt-leb (length (columns_of n bytes)) 16 (omega (arith, length-columns_of n bytes)))

-- ---- where the first zero byte stands

pub position_else : (p : ℕ → Bool) (bytes : List ℕ) → unwrap_or (position p bytes) (length bytes) ≡ position_or_len p bytes
position_else p bytes = else (nat_lt (position_or_len p bytes) (length bytes)) refl
  where
    else : (test : Bool) → nat_lt (position_or_len p bytes) (length bytes) ≡ test → unwrap_or (cond test (Some (position_or_len p bytes)) None) (length bytes) ≡ position_or_len p bytes
    else true is = refl
    else false is = omega (arith, ltb-false _ _ is, prefix_len-le-length (λ (b : ℕ). not (p b)) bytes)

-- the same as `more_columns`, from what the calls of one turn say
pub columns_next : (front next : Shape) (n i : ℕ) (rest behind : List ℕ) (c : Column) (all : Shape) → i < n → c ≡ column_of rest → behind ≡ drop 21 rest → next ≡ front ++ c ∷ [] → front ++ columns_of (n - i) rest ≡ all → next ++ columns_of (n - (i + 1)) behind ≡ all
columns_next front next n i rest behind c all lt column behind_is next_is so_far =
    ap (λ (b : List ℕ). next ++ columns_of (n - (i + 1)) b) behind_is ∙ ap (λ (x : Shape). x ++ columns_of (n - (i + 1)) (drop 21 rest)) (next_is ∙ ap (λ (x : Column). front ++ x ∷ []) column) ∙ more_columns front n i rest all lt so_far

pub rest_long : (rest behind : List ℕ) (i : ℕ) → behind ≡ drop 21 rest → length rest + 21 * i ≡ 336 → i < 16 → length behind + 21 * (i + 1) ≡ 336
rest_long rest behind i is long lt = omega (arith, ap (λ (b : List ℕ). length b) is, length-drop 21 rest)
