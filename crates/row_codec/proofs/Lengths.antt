-- Lengths of rows and of their first columns.
use Rattle.std.proofs.Common.{◌≡◌, ◌∙◌, sym, ap, ℕ, ◌+◌, ◌<◌, ◌≤◌, Bool, true, false, ◌&&◌, ◌∷◌, length, get_or, drop, map}
use Rattle.std.proofs.lemmas.Bool.{and_left, le-leb, lt-leb, and_from, and_right}
use Rattle.std.proofs.lemmas.List.{drop_more, drop_all}
use Rattle.std.proofs.lemmas.List.Sums.{sum_by-cons}
use Rattle.ids_base.specs.declared.shape.Column.{Column}
use Rattle.ids_base.specs.Shapes.{Shape, size_of, row_length, have_bytes, has_good_sizes}

pub row_length-cons : (c : Column) (cs : Shape) → row_length (c ∷ cs) ≡ size_of c.kind + row_length cs
row_length-cons c cs = sum_by-cons (λ (x : ℕ). x) (size_of c.kind) (map (λ (c : Column). size_of c.kind) cs)

-- the columns from place i on are column i and those after it
pub drop_at_column : (columns : Shape) (i : ℕ) (c : Column) → i < length columns → c ≡ get_or columns i c → drop i columns ≡ c ∷ drop (i + 1) columns
drop_at_column columns i c lt is = drop_more columns i c lt ∙ ap (λ (x : Column). x ∷ drop (i + 1) columns) (sym is)

pub row_length_more : (columns : Shape) (i : ℕ) (c : Column) → i < length columns → c ≡ get_or columns i c → row_length (drop i columns) ≡ size_of c.kind + row_length (drop (i + 1) columns)
row_length_more columns i c lt is = ap row_length (drop_at_column columns i c lt is) ∙ row_length-cons c (drop (i + 1) columns)

pub row_length_end : (columns : Shape) (i : ℕ) → length columns ≤ i → row_length (drop i columns) ≡ 0
row_length_end columns i le = ap row_length (drop_all i columns le)

pub have_bytes_more : (columns : Shape) (i : ℕ) (c : Column) → i < length columns → c ≡ get_or columns i c → 1 ≤ size_of c.kind → have_bytes (drop i columns) ≡ have_bytes (drop (i + 1) columns)
have_bytes_more columns i c lt is some = ap have_bytes (drop_at_column columns i c lt is) ∙ ap (λ (t : Bool). t && have_bytes (drop (i + 1) columns)) (le-leb 1 (size_of c.kind) some)

-- a column that takes no byte
pub no_bytes : (columns : Shape) (i : ℕ) (c : Column) → i < length columns → c ≡ get_or columns i c → size_of c.kind < 1 → have_bytes (drop i columns) ≡ have_bytes columns → false ≡ has_good_sizes columns
no_bytes columns i c lt is none same =
    let here : have_bytes (drop i columns) ≡ false = ap have_bytes (drop_at_column columns i c lt is) ∙ and_left _ _ (lt-leb 1 (size_of c.kind) none) in
    sym (and_left _ _ (sym same ∙ here))

-- a row of more than 800 bytes
pub too_long : (columns : Shape) → 800 < row_length columns → false ≡ has_good_sizes columns
too_long columns lt = sym (and_right _ _ (lt-leb (row_length columns) 800 lt))

pub good_sizes : (columns : Shape) (i : ℕ) → length columns ≤ i → row_length columns ≤ 800 → have_bytes (drop i columns) ≡ have_bytes columns → true ≡ has_good_sizes columns
good_sizes columns i le few same = sym (and_from _ _ (sym same ∙ ap have_bytes (drop_all i columns le)) (le-leb (row_length columns) 800 few))
