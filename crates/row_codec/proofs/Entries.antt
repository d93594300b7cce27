-- A row of the catalogue and its bytes stand for one another.
use Rattle.std.proofs.Common.{◌≡◌, ◌∙◌, refl, sym, ap, subst, ℕ, ◌-◌, ◌*◌, ◌^◌, ◌<◌, ◌≤◌, Bool, true, false, ◌&&◌, List, [], ◌∷◌, ◌++◌, length, get_or, take, drop, replicate, Option, Some, None, append_assoc, arith}
use Rattle.std.specs.Prelude.{nat_eq, nat_le, nat_lt}
use Rattle.std.specs.Cmp.Lexicographic.{pointwise}
use Rattle.std.specs.Int.{w32, to_be_bytes, from_be_bytes}
use Rattle.std.specs.List.{list_all, flat_map}
use Rattle.std.proofs.lemmas.Bool.{and_parts, and_from, and_left, and_right, leb-true, ltb-true, le-leb, lt-ltb, lt-leb, cond-true, cond-false, false_from_ne_true, both_ways}
use Rattle.std.proofs.lemmas.List.{length-append, length-replicate, take_at, drop_at, get_or_at, get_or-take}
use Rattle.std.proofs.lemmas.Nat.{from_be_bytes-to_be_bytes_4}
use Rattle.std.proofs.lemmas.Option.{cond_some}
use Rattle.std.proofs.lemmas.Slice.Eq.{bytes_eq-Decides}
use Rattle.ids_base.specs.declared.shape.Column.{Column}
use Rattle.ids_base.specs.Names.{is_name}
use Rattle.ids_base.specs.RowBytes.{HasRowLength}
use Rattle.ids_base.specs.Shapes.{Name, Shape, is_shape, row_length}
use Rattle.row_codec.specs.Catalogue.{Entry, name_bytes, column_bytes, entry_bytes, name_of, columns_of, are_columns, is_entry, read_entry, entry_of}
use Rattle.row_codec.proofs.Columns.{length-name_bytes, name_of-name_bytes, columns_of-column_bytes, length-columns}

-- what a good row of the catalogue keeps
record IsGood (e : Entry) : Type 0 where
  fits : e.number < 2 ^ 32
  name_is : is_name e.name ≡ true
  names_are : list_all (λ (c : Column). is_name c.name) e.shape ≡ true
  count : length e.shape ≤ 16
  few : row_length e.shape ≤ 800

good : (e : Entry) → is_entry e ≡ true → IsGood e
good e is =
    let a = and_parts _ _ is in
    let number = and_parts _ _ a.0 in
    let b = and_parts _ _ a.1 in
    let d = and_parts _ _ b.1 in
    let shape = and_parts _ _ d.1 in
    let sizes = and_parts _ _ (and_parts _ _ shape.1).0 in
    record {
      fits = ltb-true _ _ number.1;
      name_is = b.0;
      names_are = d.0;
      count = leb-true _ _ shape.0;
      few = leb-true _ _ sizes.1;
    }

pub is_good : (e : Entry) → 100 ≤ e.number → e.number < 2 ^ 32 → is_name e.name ≡ true → list_all (λ (c : Column). is_name c.name) e.shape ≡ true → is_shape e.shape ≡ true → is_entry e ≡ true
is_good e least fits name names shape = and_from _ _ (and_from _ _ (le-leb _ _ least) (lt-ltb _ _ fits)) (and_from _ _ name (and_from _ _ names shape))

-- ---- the bytes are read

regrouped : (n m : List ℕ) (x : ℕ) (f z : List ℕ) → ((n ++ m) ++ (x ∷ f)) ++ z ≡ n ++ (m ++ (x ∷ (f ++ z)))
regrouped n m x f z = append_assoc (n ++ m) (x ∷ f) z ∙ append_assoc n m (x ∷ (f ++ z))

abbrev pub made : ℕ → Name → Shape → Entry
made number name shape = record { number = number; name = name; shape = shape }

same-made : (a b : ℕ) (c d : Name) (e f : Shape) → a ≡ b → c ≡ d → e ≡ f → made a c e ≡ made b d f
same-made a b c d e f p q r = ap (λ (x : ℕ). made x c e) p ∙ ap (λ (x : Name). made b x e) q ∙ ap (λ (x : Shape). made b d x) r

read_entry-at : (n m : List ℕ) (x : ℕ) (rest : List ℕ) → length n ≡ 4 → length m ≡ 18 → read_entry (n ++ (m ++ (x ∷ rest))) ≡ made (from_be_bytes w32 n) (name_of (m ++ (x ∷ rest))) (columns_of x rest)
unfolding read_entry
read_entry-at n m x rest four eighteen =
    let bytes = n ++ (m ++ (x ∷ rest)) in
    let front : take 4 bytes ≡ n = take_at n (m ++ (x ∷ rest)) 4 four in
    let behind : drop 4 bytes ≡ m ++ (x ∷ rest) = drop_at n (m ++ (x ∷ rest)) 4 four in
    let grouped : (n ++ m) ++ (x ∷ rest) ≡ bytes = append_assoc n m (x ∷ rest) in
    let place : length (n ++ m) ≡ 22 = omega (arith, length-append n m) in
    let count : get_or bytes 22 0 ≡ x = ap (λ (b : List ℕ). get_or b 22 0) (sym grouped) ∙ get_or_at (n ++ m) x rest 0 22 place in
    let head = (n ++ m) ++ (x ∷ []) in
    let whole : head ++ rest ≡ bytes = append_assoc (n ++ m) (x ∷ []) rest ∙ grouped in
    let long : length head ≡ 23 = omega (arith, length-append (n ++ m) (x ∷ [])) in
    let columns : drop 23 bytes ≡ rest = ap (λ (b : List ℕ). drop 23 b) (sym whole) ∙ drop_at head rest 23 long in
    same-made _ _ _ _ _ _ (ap (λ (b : List ℕ). from_be_bytes w32 b) front) (ap (λ (b : List ℕ). name_of b) behind) (ap (λ (k : ℕ). columns_of k (drop 23 bytes)) count ∙ ap (λ (b : List ℕ). columns_of x b) columns)

read_entry-entry_bytes : (e : Entry) → is_entry e ≡ true → read_entry (entry_bytes e) ≡ e
read_entry-entry_bytes e is =
    let g = good e is in
    let n = to_be_bytes w32 e.number in
    let m = name_bytes e.name in
    let f = flat_map column_bytes e.shape in
    let z = replicate (21 * (16 - length e.shape)) 0 in
    let x = length e.shape in
    ap read_entry (regrouped n m x f z) ∙ read_entry-at n m x (f ++ z) refl (length-name_bytes e.name g.name_is)
    ∙ same-made _ _ _ _ _ _ (from_be_bytes-to_be_bytes_4 e.number g.fits) (name_of-name_bytes e.name (x ∷ (f ++ z)) g.name_is) (columns_of-column_bytes e.shape z g.names_are g.few)

pub entry_of-good : (bytes : List ℕ) → is_entry (read_entry bytes) ≡ true → entry_bytes (read_entry bytes) ≡ bytes → entry_of bytes ≡ Some (read_entry bytes)
unfolding entry_of
entry_of-good bytes is same = cond-true (is_entry (read_entry bytes) && pointwise nat_eq (entry_bytes (read_entry bytes)) bytes) (Some (read_entry bytes)) None (and_from _ _ is ((bytes_eq-Decides (entry_bytes (read_entry bytes)) bytes).1 same))

pub entry-read : (e : Entry) → is_entry e ≡ true → entry_of (entry_bytes e) ≡ Some e
entry-read e is =
    let read = read_entry-entry_bytes e is in
    entry_of-good (entry_bytes e) (ap is_entry read ∙ is) (ap entry_bytes read) ∙ ap (λ (x : Entry). Some x) read

-- ---- what is read is spelled so

abbrev pub Spells : List ℕ → Entry → Type 0
Spells bytes e = (is_entry e ≡ true) × (bytes ≡ entry_bytes e)

pub entry-spelled : (bytes : List ℕ) (e : Entry) → entry_of bytes ≡ Some e → Spells bytes e
unfolding entry_of
entry-spelled bytes e h =
    let r = read_entry bytes in
    let t = cond_some (is_entry r && pointwise nat_eq (entry_bytes r) bytes) r e h in
    let p = and_parts _ _ t.0 in
    subst (Spells bytes) t.1 (p.0, sym ((bytes_eq-Decides (entry_bytes r) bytes).0 p.1))

length-entry_bytes : (e : Entry) → is_entry e ≡ true → length (entry_bytes e) ≡ 359
length-entry_bytes e is =
    let g = good e is in
    let n = to_be_bytes w32 e.number in
    let m = name_bytes e.name in
    let f = flat_map column_bytes e.shape in
    let z = replicate (21 * (16 - length e.shape)) 0 in
    let x = length e.shape in
    let four : length n ≡ 4 = refl in
    ap (λ (b : List ℕ). length b) (regrouped n m x f z)
    ∙ omega (arith, g.count, four, length-append n (m ++ (x ∷ (f ++ z))), length-append m (x ∷ (f ++ z)), length-append f z, length-name_bytes e.name g.name_is, length-columns e.shape g.names_are, length-replicate {A = ℕ} (21 * (16 - length e.shape)) 0)

-- bytes that are a row of the catalogue are 359
pub entry_of-length : (bytes : List ℕ) (e : Entry) → entry_of bytes ≡ Some e → length bytes ≡ 359
entry_of-length bytes e h = let s = entry-spelled bytes e h in ap (λ (b : List ℕ). length b) s.1 ∙ length-entry_bytes e s.0

-- ---- bytes that are none

none_from : (o : Option Entry) → ((e : Entry) → o ≡ Some e → ⊥) → o ≡ None
none_from None none = refl
none_from (Some e) none = absurd (none e refl)

pub entry_of_long : (bytes : List ℕ) → (length bytes ≡ 359 → ⊥) → entry_of bytes ≡ None
entry_of_long bytes other = none_from (entry_of bytes) (λ e h. other (entry_of-length bytes e h))

pub entry_of_bad : (bytes : List ℕ) → is_entry (read_entry bytes) ≡ false → entry_of bytes ≡ None
unfolding entry_of
entry_of_bad bytes bad = cond-false (is_entry (read_entry bytes) && pointwise nat_eq (entry_bytes (read_entry bytes)) bytes) (Some (read_entry bytes)) None (and_left _ _ bad)

spelled_by_read : (bytes : List ℕ) (e : Entry) → entry_of bytes ≡ Some e → entry_bytes (read_entry bytes) ≡ bytes
spelled_by_read bytes e h =
    let s = entry-spelled bytes e h in
    let back : read_entry bytes ≡ e = ap read_entry s.1 ∙ read_entry-entry_bytes e s.0 in
    ap entry_bytes back ∙ sym s.1

pub entry_of_other : (bytes : List ℕ) → (entry_bytes (read_entry bytes) ≡ bytes → ⊥) → entry_of bytes ≡ None
entry_of_other bytes other = none_from (entry_of bytes) (λ e h. other (spelled_by_read bytes e h))

-- ---- tests that fail

pub bad_number : (e : Entry) → e.number < 100 → is_entry e ≡ false
bad_number e small = and_left _ _ (and_left _ _ (lt-leb 100 e.number small))

pub bad_name : (e : Entry) → is_name e.name ≡ false → is_entry e ≡ false
bad_name e bad = and_right _ _ (and_left _ _ bad)

pub bad_shape : (e : Entry) → is_shape e.shape ≡ false → is_entry e ≡ false
bad_shape e bad =
    let names = list_all (λ (c : Column). is_name c.name) e.shape in
    and_right (nat_le 100 e.number && nat_lt e.number (2 ^ 32)) (is_name e.name && (names && is_shape e.shape)) (and_right (is_name e.name) (names && is_shape e.shape) (and_right names (is_shape e.shape) bad))

pub bad_columns : (e : Entry) → are_columns e.shape ≡ false → is_entry e ≡ false
bad_columns e bad = false_from_ne_true _ (λ (is : is_entry e ≡ true). let g = good e is in both_ways _ bad (and_from _ _ (le-leb _ _ g.count) g.names_are))

-- ---- what the fields of 359 bytes say

pub bad_name_field : (bytes rest : List ℕ) → rest ≡ drop 4 bytes → is_name (name_of rest) ≡ false → is_entry (read_entry bytes) ≡ false
unfolding read_entry
bad_name_field bytes rest is bad = bad_name (read_entry bytes) (ap (λ (b : List ℕ). is_name (name_of b)) (sym is) ∙ bad)

pub bad_column_fields : (bytes rest : List ℕ) (n : ℕ) → n ≡ get_or bytes 22 0 → rest ≡ drop 23 bytes → are_columns (columns_of n rest) ≡ false → is_entry (read_entry bytes) ≡ false
unfolding read_entry
bad_column_fields bytes rest n count is bad = bad_columns (read_entry bytes) (sym (ap (λ (k : ℕ). are_columns (columns_of k rest)) count ∙ ap (λ (b : List ℕ). are_columns (columns_of (get_or bytes 22 0) b)) is) ∙ bad)

pub fields_read : (bytes behind rest : List ℕ) (number n : ℕ) (name : Name) (shape : Shape) → number ≡ from_be_bytes w32 (take 4 bytes) → behind ≡ drop 4 bytes → name ≡ name_of behind → n ≡ get_or bytes 22 0 → rest ≡ drop 23 bytes → shape ≡ columns_of n rest → made number name shape ≡ read_entry bytes
unfolding read_entry
fields_read bytes behind rest number n name shape number_is behind_is name_is n_is rest_is shape_is =
    same-made _ _ _ _ _ _ number_is (name_is ∙ ap (λ (b : List ℕ). name_of b) behind_is) (shape_is ∙ ap (λ (k : ℕ). columns_of k rest) n_is ∙ ap (λ (b : List ℕ). columns_of (get_or bytes 22 0) b) rest_is)

-- ---- the length of its bytes

pub entry_has_row_length : (bytes : List ℕ) (e : Entry) → bytes ≡ entry_bytes e → is_entry e ≡ true → HasRowLength bytes
entry_has_row_length bytes e is is_good =
    let long : length bytes ≡ 359 = ap (λ (b : List ℕ). length b) is ∙ length-entry_bytes e is_good in
    record { some = omega arith; few = omega arith }

pub length_of_entry : (bytes : List ℕ) (e : Entry) → bytes ≡ entry_bytes e → is_entry e ≡ true → length bytes ≡ 359
length_of_entry bytes e is is_good = ap (λ (b : List ℕ). length b) is ∙ length-entry_bytes e is_good

pub entry_again : (bytes : List ℕ) (e : Entry) → bytes ≡ entry_bytes e → is_entry e ≡ true → entry_of bytes ≡ Some e
entry_again bytes e is is_good = ap entry_of is ∙ entry-read e is_good

pub number_front : (bytes : List ℕ) → from_be_bytes w32 (get_or bytes 0 0 ∷ get_or bytes 1 0 ∷ get_or bytes 2 0 ∷ get_or bytes 3 0 ∷ []) ≡ from_be_bytes w32 (take 4 bytes)
number_front bytes = omega (arith, get_or-take 4 bytes 0 0 (omega arith), get_or-take 4 bytes 1 0 (omega arith), get_or-take 4 bytes 2 0 (omega arith), get_or-take 4 bytes 3 0 (omega arith))

-- ---- what was read is spelled in another way

pub other_spelling : (bytes spelled : List ℕ) (e : Entry) (test : Bool) → e ≡ read_entry bytes → spelled ≡ entry_bytes e → test ≡ pointwise nat_eq spelled bytes → test ≡ false → None ≡ entry_of bytes
other_spelling bytes spelled e test read is answer differs =
    sym (entry_of_other bytes (λ (same : entry_bytes (read_entry bytes) ≡ bytes).
    let equal : spelled ≡ bytes = is ∙ ap entry_bytes read ∙ same in
    both_ways _ (sym answer ∙ differs) ((bytes_eq-Decides spelled bytes).1 equal)))

pub bad_entry : (bytes : List ℕ) (e : Entry) → e ≡ read_entry bytes → is_entry e ≡ false → None ≡ entry_of bytes
bad_entry bytes e read bad = sym (entry_of_bad bytes (sym (ap is_entry read) ∙ bad))
