-- What a block stands for, and what two reads of it give.
use Rattle.std.proofs.Common.{◌≡◌, ◌≢◌, ◌⊎◌, inl, inr, ℕ, zero, suc, ◌+◌, ◌*◌, ◌<◌, ◌≤◌, List, length, get_or, Some, None, refl, Result, Ok, Err, OnOk, if◌then◌else◌, ◌==◌, sym, ◌∙◌, ap, arith}
use Rattle.std.proofs.lemmas.Bool.{cases_eq}
use Rattle.std.proofs.lemmas.Bool.Decides.{nat_tests}
use Rattle.ids_outside.specs.Images.{Image, byte, bytes_of, SameBut}
use Rattle.gate_blocks.proofs.Images.{bytes_of-same, bytes_of-one}
use Rattle.gate_blocks.specs.Gates.{place, gate, body, block, Within}
use Rattle.gate_blocks.specs.declared.region.Region.{Region}

pub within_cases : (at n k : ℕ) → Within at n k ⊎ ¬ Within at n k
within_cases at n k = elim (order k at) [
  | inl before ↦ inr (λ h. omega (arith, h.0, before))
  | inr from ↦ elim (order k (at + n)) [
    | inl below ↦ inl (from, below)
    | inr past ↦ inr (λ h. omega (arith, h.1, past))
  ]
]
  where
    order : (a b : ℕ) → (a < b) ⊎ (b ≤ a)
    order a b = grind arith

module _ (r : Region) (k : ℕ) where
  pub block-open : (x : Image) → gate r k x ≡ 165 → block r k x ≡ Some (body r k x)
  unfolding block
  block-open x is = grind (arith, nat_tests)

  pub block-closed : (x : Image) → gate r k x ≢ 165 → block r k x ≡ None
  unfolding block
  block-closed x shut = grind (arith, nat_tests)

  pub closed-gate : (x : Image) → block r k x ≡ None → gate r k x ≢ 165
  closed-gate x none is = cc (block-open x is, none)

  pub block-same : (x y : Image) → gate r k y ≡ gate r k x → body r k y ≡ body r k x → block r k y ≡ block r k x
  block-same x y gates bodies = elim (cases_eq (gate r k x) 165) [
    | inl is ↦ block-open y (gates ∙ is) ∙ ap (λ (b : List ℕ). Some b) bodies ∙ sym (block-open x is)
    | inr shut ↦ block-closed y (λ h. shut (sym gates ∙ h)) ∙ sym (block-closed x shut)
  ]

  -- a body that is left alone
  pub body-alone : (changed : ℕ → ℕ → Type 0) (x y : Image) → ((i : ℕ) → place r k ≤ i → i < place r k + 2047 → ¬ changed r.chunk i) → SameBut changed x y → body r k y ≡ body r k x
  unfolding body
  body-alone changed x y alone same = bytes_of-same x y r.chunk (place r k) 2047 (λ i le lt. same.bytes r.chunk i (alone i le lt))

  -- a block that is left alone stands for what it stood for
  pub block-alone : (changed : ℕ → ℕ → Type 0) (x y : Image) → ((i : ℕ) → place r k ≤ i → i < place r k + 2048 → ¬ changed r.chunk i) → SameBut changed x y → block r k y ≡ block r k x
  block-alone changed x y alone same = block-same x y (same.bytes r.chunk (place r k + 2047) (alone (place r k + 2047) (omega arith) (omega arith)))
      (body-alone changed x y (λ i le lt. alone i le (omega (arith, lt))) same)

  pub read_body : (x : Image) (into : List ℕ) (len : ℕ) → len ≡ 2047 → into ≡ bytes_of x r.chunk (place r k) len → into ≡ body r k x
  unfolding body
  read_body x into len is same = same ∙ ap (λ (n : ℕ). bytes_of x r.chunk (place r k) n) is

  pub read_gate : (x : Image) (one : List ℕ) → one ≡ bytes_of x r.chunk (place r k + 2047) 1 → get_or one 0 0 ≡ gate r k x
  read_gate x one read = ap (λ (l : List ℕ). get_or l 0 0) (read ∙ bytes_of-one x r.chunk (place r k + 2047))

  pub read_block : (x : Image) (into one : List ℕ) → into ≡ body r k x → one ≡ bytes_of x r.chunk (place r k + 2047) 1
      → block r k x ≡ (if get_or one 0 0 == 165 then Some into else None)
  read_block x into one same read =
      let here = read_gate x one read in
      elim (cases_eq (gate r k x) 165) [
        | inl is ↦ block-open x is ∙ ap (λ (b : List ℕ). Some b) (sym same) ∙ sym (if_open (get_or one 0 0) into (here ∙ is))
        | inr shut ↦ block-closed x shut ∙ sym (if_shut (get_or one 0 0) into (λ h. shut (sym here ∙ h)))
      ]
    where
      if_open : (g : ℕ) (b : List ℕ) → g ≡ 165 → (if g == 165 then Some b else None) ≡ Some b
      if_open g b is = grind (arith, nat_tests)

      if_shut : (g : ℕ) (b : List ℕ) → g ≢ 165 → (if g == 165 then Some b else None) ≡ None
      if_shut g b shut = grind (arith, nat_tests)

pub on_ok : {T E P : Type 0} → (r : Result T E) → P → OnOk r P
on_ok (Ok v) p = p
on_ok (Err e) p = tt

length_bytes : (x : Image) (chunk at n : ℕ) → length (bytes_of x chunk at n) ≡ n
unfolding bytes_of
length_bytes x chunk at zero = refl
length_bytes x chunk at (suc n) = ap (λ (m : ℕ). suc m) (length_bytes x chunk (suc at) n)

pub length-body : (r : Region) (k : ℕ) (x : Image) → length (body r k x) ≡ 2047
unfolding body
length-body r k x = length_bytes x r.chunk (place r k) 2047

-- a page of two regions
pub body-page : (r s : Region) (k m : ℕ) (x : Image) → r.chunk ≡ s.chunk → r.first + k ≡ s.first + m → body r k x ≡ body s m x
unfolding body
body-page r s k m x chunks pages = ap (λ (j : ℕ). bytes_of x j (place r k) 2047) chunks ∙ ap (λ (p : ℕ). bytes_of x s.chunk (2048 * p) 2047) pages

pub block-page : (r s : Region) (k m : ℕ) (x : Image) → r.chunk ≡ s.chunk → r.first + k ≡ s.first + m → block r k x ≡ block s m x
block-page r s k m x chunks pages = elim (cases_eq (gate s m x) 165) [
  | inl is ↦ block-open r k x (gates ∙ is) ∙ ap (λ (b : List ℕ). Some b) (body-page r s k m x chunks pages) ∙ sym (block-open s m x is)
  | inr shut ↦ block-closed r k x (λ h. shut (sym gates ∙ h)) ∙ sym (block-closed s m x shut)
]
  where
    gates : gate r k x ≡ gate s m x
    gates = ap (λ (j : ℕ). byte x j (place r k + 2047)) chunks ∙ ap (λ (p : ℕ). byte x s.chunk (2048 * p + 2047)) pages
