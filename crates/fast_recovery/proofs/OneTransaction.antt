-- Changes that are all of one transaction.
use Rattle.std.proofs.Common.{◌≡◌, ◌≢◌, ℕ, zero, suc, ◌<◌, ap, sym, subst, ◌∙◌, List, [], ◌∷◌, ◌++◌, length, take, get_or, arith, Some}
use Rattle.std.specs.Prelude.{reverse}
use Rattle.std.specs.List.{slice_get}
use Rattle.std.proofs.lemmas.List.{reverse-append, reverse-reverse}
use Rattle.ids_model.specs.Recovered.{SlotChange, AreOf}

pub AreOf-at : (t : ℕ) (xs : List SlotChange) (k : ℕ) (d : SlotChange) → AreOf t xs → k < length xs → (get_or xs k d).tx ≡ t
AreOf-at t [] k d h lt = absurd (omega arith)
AreOf-at t (x ∷ xs) zero d h lt = h.0
AreOf-at t (x ∷ xs) (suc k) d h lt = AreOf-at t xs k d h.1 (omega arith)

pub AreOf-more : (t : ℕ) (xs : List SlotChange) (k : ℕ) (d : SlotChange) → AreOf t (take k xs) → k < length xs → (get_or xs k d).tx ≡ t → AreOf t (take (suc k) xs)
AreOf-more t [] k d h lt e = absurd (omega arith)
AreOf-more t (x ∷ xs) zero d h lt e = (e, tt)
AreOf-more t (x ∷ xs) (suc k) d h lt e = (h.0, AreOf-more t xs k d h.1 (omega arith) e)

AreOf-append : (t : ℕ) (xs ys : List SlotChange) → AreOf t xs → AreOf t ys → AreOf t (xs ++ ys)
AreOf-append t [] ys h g = g
AreOf-append t (x ∷ xs) ys h g = (h.0, AreOf-append t xs ys h.1 g)

pub AreOf-reverse : (t : ℕ) (xs : List SlotChange) → AreOf t xs → AreOf t (reverse xs)
AreOf-reverse t [] h = tt
AreOf-reverse t (x ∷ xs) h = subst (AreOf t) (sym (reverse-append (x ∷ []) xs)) (AreOf-append t (reverse xs) (x ∷ []) (AreOf-reverse t xs h.1) (h.0, tt))

-- the transaction of the first change is the one that all are of
pub first-of : (t : ℕ) (xs : List SlotChange) (c : SlotChange) → Some c ≡ slice_get xs 0 → AreOf t (reverse xs) → AreOf c.tx xs
first-of t xs c is h =
    let all : AreOf t xs = subst (AreOf t) (reverse-reverse xs) (AreOf-reverse t (reverse xs) h) in
    subst (λ u. AreOf u xs) (sym (at xs is all)) all
  where
    at : (ys : List SlotChange) → Some c ≡ slice_get ys 0 → AreOf t ys → c.tx ≡ t
    at [] e g = cc
    at (y ∷ ys) e g = let same : c ≡ y = cc in ap (λ (d : SlotChange). d.tx) same ∙ g.0

-- where there is a first change, there are changes
pub some-there : (xs : List SlotChange) (c : SlotChange) → Some c ≡ slice_get xs 0 → reverse xs ≢ []
some-there [] c e h = cc
some-there (y ∷ ys) c e h = let none : y ∷ ys ≡ [] = sym (reverse-reverse (y ∷ ys)) ∙ ap reverse h in cc
