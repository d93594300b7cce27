-- The marks of the entries of a key.
use Rattle.std.proofs.Common.{◌≡◌, ℕ, ◌%◌, Bool, true, false, not, ◌||◌, refl, ap, List, [], ◌∷◌}
use Rattle.std.specs.List.{list_any, filter}
use Rattle.std.specs.Int.{bit_at}
use Rattle.std.proofs.Common.{cond}
use Rattle.table_space.specs.declared.entry.Entry.{Entry}
use Rattle.table_space.specs.Entries.{stays}
use Rattle.table_space.specs.Indexed.{goes}

-- the first entries have their marks
abbrev pub HaveMarks : List Entry → ℕ → Type 0
HaveMarks es marks = (tx : ℕ) → list_any (goes tx) es ≡ true → bit_at marks (tx % 63) ≡ 1

-- where none goes, all stay
pub all-stay : (tx : ℕ) (es : List Entry) → list_any (goes tx) es ≡ false → filter (stays tx) es ≡ es
all-stay tx [] h = refl
all-stay tx (e ∷ es) h = at (stays tx e) h (all-stay tx es)
  where
    at : (b : Bool) → (not b || list_any (goes tx) es) ≡ false → (list_any (goes tx) es ≡ false → filter (stays tx) es ≡ es) → cond b (e ∷ filter (stays tx) es) (filter (stays tx) es) ≡ e ∷ es
    at true g more = ap (λ xs. e ∷ xs) (more g)
    at false g more = absurd (cc)

-- none goes that was dropped
pub filter-twice : (p : Entry → Bool) (es : List Entry) → filter p (filter p es) ≡ filter p es
filter-twice p [] = refl
filter-twice p (e ∷ es) = at (p e) refl (filter-twice p es)
  where
    at : (b : Bool) → p e ≡ b → filter p (filter p es) ≡ filter p es → filter p (cond b (e ∷ filter p es) (filter p es)) ≡ cond b (e ∷ filter p es) (filter p es)
    at true is h = rw is (ap (λ xs. e ∷ xs) h)
    at false is h = h
