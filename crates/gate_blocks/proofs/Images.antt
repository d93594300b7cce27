-- Images that differ at some places at most, and what a range of them reads.
use Rattle.std.proofs.Common.{◌≡◌, ℕ, zero, suc, ◌+◌, ◌<◌, ◌≤◌, [], ◌∷◌, refl, ◌∙◌, arith}
use Rattle.ids_outside.specs.Images.{Image, byte, bytes_of, SameBut}

pub same_image : (changed : ℕ → ℕ → Type 0) (x : Image) → SameBut changed x x
same_image changed x = record { chunks = refl; lengths = λ j. refl; bytes = λ j i out. refl }

-- one change after another
pub both : (first second changed : ℕ → ℕ → Type 0) (x y z : Image) → SameBut first x y → SameBut second y z
    → ((j i : ℕ) → first j i → changed j i) → ((j i : ℕ) → second j i → changed j i) → SameBut changed x z
both first second changed x y z one two in_first in_second = record {
  chunks = two.chunks ∙ one.chunks;
  lengths = λ j. two.lengths j ∙ one.lengths j;
  bytes = λ j i out. two.bytes j i (λ h. out (in_second j i h)) ∙ one.bytes j i (λ h. out (in_first j i h));
}

-- a change within more places
pub wider : (first changed : ℕ → ℕ → Type 0) (x y : Image) → SameBut first x y → ((j i : ℕ) → first j i → changed j i) → SameBut changed x y
wider first changed x y one inside = record { chunks = one.chunks; lengths = one.lengths; bytes = λ j i out. one.bytes j i (λ h. out (inside j i h)) }

-- a range that is left alone reads the same
pub bytes_of-same : (x y : Image) (chunk at n : ℕ) → ((i : ℕ) → at ≤ i → i < at + n → byte y chunk i ≡ byte x chunk i) → bytes_of y chunk at n ≡ bytes_of x chunk at n
unfolding bytes_of
bytes_of-same x y chunk at zero same = refl
bytes_of-same x y chunk at (suc n) same =
    let here : byte y chunk at ≡ byte x chunk at = same at (omega arith) (omega arith) in
    let rest : bytes_of y chunk (suc at) n ≡ bytes_of x chunk (suc at) n = bytes_of-same x y chunk (suc at) n (λ i le lt. same i (omega (arith, le)) (omega (arith, lt))) in
    (λ k. here k ∷ rest k)

pub bytes_of-one : (x : Image) (chunk at : ℕ) → bytes_of x chunk at 1 ≡ byte x chunk at ∷ []
unfolding bytes_of
bytes_of-one x chunk at = refl
