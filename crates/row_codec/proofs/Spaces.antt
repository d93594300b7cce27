-- Texts filled with spaces.
use Rattle.std.proofs.Common.{◌≡◌, ◌∙◌, refl, sym, ap, ℕ, zero, suc, ◌+◌, ◌-◌, ◌≤◌, Bool, true, false, ◌==◌, List, [], ◌∷◌, ◌++◌, length, replicate, arith}
use Rattle.std.specs.Prelude.{if◌then◌else◌}
use Rattle.std.proofs.lemmas.Bool.{eqb-true, and_from}
use Rattle.std.proofs.lemmas.List.{length-append, length-replicate}
use Rattle.std.proofs.lemmas.List.Folds.{list_all-append}
use Rattle.ids_base.specs.Texts.{is_printable, is_printable_text, before_text, trimmed}

spaces-trimmed : (n : ℕ) → trimmed (replicate n 32) ≡ []
spaces-trimmed zero = refl
spaces-trimmed (suc n) = ap (before_text 32) (spaces-trimmed n)

-- spaces at the end change nothing of the text
pub trimmed-append-spaces : (text : List ℕ) (n : ℕ) → trimmed (text ++ replicate n 32) ≡ trimmed text
trimmed-append-spaces [] n = spaces-trimmed n
trimmed-append-spaces (b ∷ text) n = ap (before_text b) (trimmed-append-spaces text n)

spaces-printable : (n : ℕ) → is_printable_text (replicate n 32) ≡ true
spaces-printable zero = refl
spaces-printable (suc n) = spaces-printable n

-- a printable text stays so where spaces are put at its end
pub printable-append-spaces : (text : List ℕ) (n : ℕ) → is_printable_text text ≡ true → is_printable_text (text ++ replicate n 32) ≡ true
printable-append-spaces text n is = list_all-append is_printable text (replicate n 32) ∙ and_from _ _ is (spaces-printable n)

filled-alone : (b : ℕ) (bytes : List ℕ) (test : Bool) (m : ℕ) → (b == 32) ≡ test → replicate m 32 ≡ bytes → (k : ℕ) × ((if test then [] else b ∷ []) ++ replicate k 32 ≡ b ∷ bytes)
filled-alone b bytes true m same is = (suc m, ap (λ (x : ℕ). x ∷ replicate m 32) (sym (eqb-true b 32 same)) ∙ ap (λ (xs : List ℕ). b ∷ xs) is)
filled-alone b bytes false m same is = (m, ap (λ (xs : List ℕ). b ∷ xs) is)

filled-before : (b : ℕ) (bytes text : List ℕ) (m : ℕ) → text ++ replicate m 32 ≡ bytes → (k : ℕ) × (before_text b text ++ replicate k 32 ≡ b ∷ bytes)
filled-before b bytes [] m is = filled-alone b bytes (b == 32) m refl is
filled-before b bytes (c ∷ text) m is = (m, ap (λ (xs : List ℕ). b ∷ xs) is)

-- bytes are their text and spaces
filled : (bytes : List ℕ) → (m : ℕ) × (trimmed bytes ++ replicate m 32 ≡ bytes)
filled [] = (0, refl)
filled (b ∷ bytes) = filled-before b bytes (trimmed bytes) (filled bytes).0 (filled bytes).1

filled-length : (text bytes : List ℕ) (m : ℕ) → text ++ replicate m 32 ≡ bytes → length text + m ≡ length bytes
filled-length text bytes m is = omega (arith, length-append text (replicate m 32), length-replicate {A = ℕ} m 32, ap (λ (xs : List ℕ). length xs) is)

-- the text is no longer than the bytes
pub length-trimmed-le : (bytes : List ℕ) → length (trimmed bytes) ≤ length bytes
length-trimmed-le bytes = omega (arith, filled-length (trimmed bytes) bytes (filled bytes).0 (filled bytes).1)

-- the text filled with spaces up to the size of the bytes is the bytes
pub trimmed-filled : (bytes : List ℕ) (size : ℕ) → length bytes ≡ size → trimmed bytes ++ replicate (size - length (trimmed bytes)) 32 ≡ bytes
trimmed-filled bytes size is =
    let all = filled-length (trimmed bytes) bytes (filled bytes).0 (filled bytes).1 in
    let same : size - length (trimmed bytes) ≡ (filled bytes).0 = omega arith in
    ap (λ (k : ℕ). trimmed bytes ++ replicate k 32) same ∙ (filled bytes).1
