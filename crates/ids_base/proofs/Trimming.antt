-- Texts without the spaces at their end.
use Rattle.std.proofs.Common.{◌≡◌, ◌≢◌, ◌∙◌, refl, sym, ap, subst, ℕ, Bool, true, false, ◌&&◌, ◌==◌, List, [], ◌∷◌, ◌++◌}
use Rattle.std.specs.Prelude.{if◌then◌else◌}
use Rattle.std.specs.List.{list_all}
use Rattle.ids_base.specs.Texts.{is_printable, is_printable_text, before_text, trimmed, IsText}

-- a space at the end is dropped
pub trimmed-space : (bytes : List ℕ) → trimmed (bytes ++ 32 ∷ []) ≡ trimmed bytes
trimmed-space [] = refl
trimmed-space (b ∷ bytes) = ap (before_text b) (trimmed-space bytes)

before-front : (b c : ℕ) (bytes : List ℕ) → before_text b (bytes ++ c ∷ []) ≡ b ∷ (bytes ++ c ∷ [])
before-front b c [] = refl
before-front b c (d ∷ bytes) = refl

alone : (b : ℕ) (test : Bool) → test ≡ false → (if test then [] else b ∷ []) ≡ b ∷ []
alone b true is = cc
alone b false is = refl

-- a text that ends in no space stays
pub trimmed-other : (bytes : List ℕ) (b : ℕ) → (b == 32) ≡ false → trimmed (bytes ++ b ∷ []) ≡ bytes ++ b ∷ []
trimmed-other [] b is = alone b (b == 32) is
trimmed-other (c ∷ bytes) b is = ap (before_text c) (trimmed-other bytes b is) ∙ before-front c b bytes

trimmed-alone : (b : ℕ) (test : Bool) → (b == 32) ≡ test → trimmed (if test then [] else b ∷ []) ≡ (if test then [] else b ∷ [])
trimmed-alone b true is = refl
trimmed-alone b false is = alone b (b == 32) is

trimmed-before : (b : ℕ) (text : List ℕ) → trimmed text ≡ text → trimmed (before_text b text) ≡ before_text b text
trimmed-before b [] is = trimmed-alone b (b == 32) refl
trimmed-before b (c ∷ text) is = ap (before_text b) is

-- to trim twice is to trim once
pub trimmed-trimmed : (bytes : List ℕ) → trimmed (trimmed bytes) ≡ trimmed bytes
trimmed-trimmed [] = refl
trimmed-trimmed (b ∷ bytes) = trimmed-before b (trimmed bytes) (trimmed-trimmed bytes)

kept-alone : (p : ℕ → Bool) (b : ℕ) (test : Bool) → p b ≡ true → list_all p (if test then [] else b ∷ []) ≡ true
kept-alone p b true is = refl
kept-alone p b false is = ap (λ q. q && true) is

kept-before : (p : ℕ → Bool) (b : ℕ) (text : List ℕ) → p b ≡ true → list_all p text ≡ true → list_all p (before_text b text) ≡ true
kept-before p b [] is all = kept-alone p b (b == 32) is
kept-before p b (c ∷ text) is all = ap (λ q. q && list_all p (c ∷ text)) is ∙ all

first-true : (a b : Bool) → (a && b) ≡ true → a ≡ true
first-true true b is = refl
first-true false b is = cc

second-true : (a b : Bool) → (a && b) ≡ true → b ≡ true
second-true true b is = is
second-true false b is = cc

-- what all bytes keep, those of the trimmed text keep
pub all-trimmed : (p : ℕ → Bool) (bytes : List ℕ) → list_all p bytes ≡ true → list_all p (trimmed bytes) ≡ true
all-trimmed p [] is = refl
all-trimmed p (b ∷ bytes) is = kept-before p b (trimmed bytes) (first-true (p b) (list_all p bytes) is) (all-trimmed p bytes (second-true (p b) (list_all p bytes) is))

-- printable bytes, trimmed, are a text
pub text-trimmed : (bytes : List ℕ) → is_printable_text bytes ≡ true → IsText (trimmed bytes)
text-trimmed bytes is = record { printable = all-trimmed is_printable bytes is; ends = trimmed-trimmed bytes }
