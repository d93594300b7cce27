-- The texts of lists, one element after another.
use Rattle.std.proofs.Common.{◌≡◌, ◌∙◌, refl, sym, ap, ℕ, Bool, true, false, ◌||◌, ◌==◌, List, [], ◌∷◌, ◌++◌, append_assoc, ◌<◌, ◌+◌, length, take, get_or}
use Rattle.std.proofs.lemmas.List.{append-nil, take_more}
use Rattle.std.specs.Prelude.{if◌then◌else◌}
use Rattle.ids_base.specs.declared.value.Value.{Value}
use Rattle.ids_model.specs.declared.journal.Given.{Given}
use Rattle.ids_model.specs.Tables.{Row}
use Rattle.ids_model.specs.Text.{escaped, value_text, row_text, line, rows_text, given_text, text}

escaped-by : (b : ℕ) (test : Bool) (rest more : List ℕ) → (if test then 92 ∷ b ∷ (rest ++ more) else b ∷ (rest ++ more)) ≡ (if test then 92 ∷ b ∷ rest else b ∷ rest) ++ more
escaped-by b true rest more = refl
escaped-by b false rest more = refl

pub escaped-append : (a b : List ℕ) → escaped (a ++ b) ≡ escaped a ++ escaped b
escaped-append [] b = refl
escaped-append (x ∷ a) b =
    ap (λ r. if (x == 124) || (x == 92) then 92 ∷ x ∷ r else x ∷ r) (escaped-append a b) ∙ escaped-by x ((x == 124) || (x == 92)) (escaped a) (escaped b)

-- a row with one more value
pub row_text-push : (row : Row) (v : Value) → row_text (row ++ v ∷ []) ≡ row_text row ++ (value_text v ++ 124 ∷ [])
row_text-push [] v = append-nil (value_text v ++ 124 ∷ [])
row_text-push (x ∷ row) v =
    ap (λ r. value_text x ++ (124 ∷ []) ++ r) (row_text-push row v) ∙ sym (append_assoc (value_text x ++ 124 ∷ []) (row_text row) (value_text v ++ 124 ∷ []))

-- rows with one more row
pub rows_text-push : (head : List ℕ) (rows : List Row) (row : Row) → rows_text head (rows ++ row ∷ []) ≡ rows_text head rows ++ line head (row_text row)
rows_text-push head [] row = append-nil (line head (row_text row))
rows_text-push head (x ∷ rows) row =
    ap (λ r. line head (row_text x) ++ r) (rows_text-push head rows row) ∙ sym (append_assoc (line head (row_text x)) (rows_text head rows) (line head (row_text row)))

-- the texts of one element more
pub escaped-more : (text : List ℕ) (i : ℕ) → i < length text → escaped (take (i + 1) text) ≡ escaped (take i text) ++ escaped (get_or text i 0 ∷ [])
escaped-more text i lt = ap escaped (take_more text i 0 lt) ∙ escaped-append (take i text) (get_or text i 0 ∷ [])

pub row_text-more : (row : Row) (i : ℕ) (v : Value) → i < length row → v ≡ get_or row i v → row_text (take (i + 1) row) ≡ row_text (take i row) ++ (value_text v ++ 124 ∷ [])
row_text-more row i v lt is = ap row_text (take_more row i v lt) ∙ ap (λ x. row_text (take i row ++ x ∷ [])) (sym is) ∙ row_text-push (take i row) v

pub rows_text-more : (head : List ℕ) (rows : List Row) (i : ℕ) (row : Row) → i < length rows → row ≡ get_or rows i row → rows_text head (take (i + 1) rows) ≡ rows_text head (take i rows) ++ line head (row_text row)
rows_text-more head rows i row lt is = ap (rows_text head) (take_more rows i row lt) ∙ ap (λ x. rows_text head (take i rows ++ x ∷ [])) (sym is) ∙ rows_text-push head (take i rows) row

-- the text of one reply more
pub text-push : (given : List Given) (last : Given) → text (given ++ last ∷ []) ≡ text given ++ given_text last
text-push [] last = append-nil (given_text last)
text-push (g ∷ given) last = ap (λ t. given_text g ++ t) (text-push given last) ∙ sym (append_assoc (given_text g) (text given) (given_text last))
