-- The tree over sets of marks: what a write keeps, and what a node says of the places below it.
use Rattle.std.proofs.Common.{◌≡◌, ◌≢◌, ◌==◌, Bool, true, false, ℕ, zero, suc, ◌+◌, ◌-◌, ◌*◌, ◌/◌, ◌^◌, ◌<◌, ◌≤◌, refl, ap, sym, ◌∙◌, subst, List, length, max, arith, inl, inr, slice_index}
use Rattle.std.proofs.Math.Nat.{mul-le-mul_left, two-pow-succ, pow-suc}
use Rattle.std.proofs.lemmas.Bool.{cases_lt, eq-eqb}
use Rattle.std.proofs.lemmas.Nat.{pow_pos}
use Rattle.std.proofs.lemmas.Nat.Bits.{bit_at_or, bit_at-lt}
use Rattle.std.specs.Int.{bit_at}
use Rattle.std.specs.Int.RustNames.{bit_or}
use Rattle.table_space.specs.Marks.{IsPower, IsLaw, IsUnmarkedBelow, IsNextBelow}

-- each node but one has the marks of the two below it
abbrev pub IsLawBut : List ℕ → ℕ → Type 0
IsLawBut nodes but = (n : ℕ) → 1 ≤ n → 2 * n < length nodes → n ≢ but → slice_index nodes n ≡ bit_or (slice_index nodes (2 * n)) (slice_index nodes (2 * n + 1))

-- half of a power of two
pub power-half : (width : ℕ) → IsPower width → width ≢ 1 → IsPower (width / 2) × (width ≡ width / 2 + width / 2) × (1 ≤ width / 2)
power-half width p ne = at p.of p.is
  where
    at : (k : ℕ) → width ≡ 2 ^ k → IsPower (width / 2) × (width ≡ width / 2 + width / 2) × (1 ≤ width / 2)
    at zero e = absurd (ne e)
    at (suc k) e =
        let two : width ≡ 2 ^ k + 2 ^ k = e ∙ two-pow-succ k in
        let some : 1 ≤ 2 ^ k = pow_pos k in
        let half : width / 2 ≡ 2 ^ k = omega arith in
        (record { of = k; is = half }, omega arith, omega arith)

pub power-double : (width : ℕ) → IsPower width → IsPower (width * 2)
power-double width p = record { of = suc p.of; is = ap (λ n. n * 2) p.is ∙ sym (pow-suc 2 p.of) }

max-none : (a b : ℕ) → max a b ≡ 0 → (a ≡ 0) × (b ≡ 0)
max-none a b e = (omega arith, omega arith)

-- where the places of the two nodes below a node are
left-at : (node w p : ℕ) → 2 * node * w + p ≡ node * (w + w) + p
left-at node w p = omega arith

right-at : (node w p : ℕ) → (2 * node + 1) * w + p ≡ node * (w + w) + (w + p)
right-at node w p = omega arith

node-within : (node w len : ℕ) → 1 ≤ w → node * (w + w) + (w + w) ≤ len → 2 * node + 1 < len
node-within node w len some fits = let le : node * 1 ≤ node * w = mul-le-mul_left node some in omega arith

-- where a node lacks a mark, all places below it do
pub below-none : (nodes : List ℕ) (mark : ℕ) → IsLaw nodes → (k : ℕ) (node width : ℕ) → width ≡ 2 ^ k → 1 ≤ node → node * width + width ≤ length nodes → bit_at (slice_index nodes node) mark ≡ 0
    → (p : ℕ) → p < width → bit_at (slice_index nodes (node * width + p)) mark ≡ 0
below-none nodes mark law zero node width e some fits none p lt =
    let one : width ≡ 1 = e in
    let same : node * width + p ≡ node = rw one (omega arith) in
    rw same none
below-none nodes mark law (suc k) node width e some fits none p lt =
    let w = 2 ^ k in
    let two : width ≡ w + w = e ∙ two-pow-succ k in
    let least : 1 ≤ w = pow_pos k in
    let room : node * (w + w) + (w + w) ≤ length nodes = subst (λ n. node * n + n ≤ length nodes) two fits in
    let inner : 2 * node + 1 < length nodes = node-within node w (length nodes) least room in
    let both : max (bit_at (slice_index nodes (2 * node)) mark) (bit_at (slice_index nodes (2 * node + 1)) mark) ≡ 0 =
    sym (bit_at_or (slice_index nodes (2 * node)) (slice_index nodes (2 * node + 1)) mark) ∙ ap (λ n. bit_at n mark) (sym (law node some (omega arith))) ∙ none in
    let parts = max-none (bit_at (slice_index nodes (2 * node)) mark) (bit_at (slice_index nodes (2 * node + 1)) mark) both in
    elim (cases_lt p w) [
      | inl left ↦
          let at : 2 * node * w + p ≡ node * width + p = left-at node w p ∙ ap (λ n. node * n + p) (sym two) in
          rw (← at) (below-none nodes mark law k (2 * node) w refl (omega arith) (omega (arith, left-at node w w)) parts.0 p left)
      | inr right ↦
          let at : (2 * node + 1) * w + (p - w) ≡ node * width + p = right-at node w (p - w) ∙ ap (λ n. node * n + (w + (p - w))) (sym two) ∙ ap (λ n. node * width + n) (omega arith) in
          rw (← at) (below-none nodes mark law k (2 * node + 1) w refl (omega arith) (omega (arith, right-at node w w)) parts.1 (p - w) (omega arith))
    ]

-- what the test of a mark says
pub mark-not : (n mark : ℕ) (r : Bool) → r ≡ (bit_at n mark == 1) → r ≡ false → bit_at n mark ≡ 0
mark-not n mark r e f =
    let few : bit_at n mark < 2 = bit_at-lt n mark in
    let ne : bit_at n mark ≢ 1 = λ same. let clash : true ≡ false = sym (eq-eqb (bit_at n mark) 1 same) ∙ sym e ∙ f in cc in
    omega arith

module _ (nodes : List ℕ) (mark node width half from : ℕ) (two : width ≡ half + half) where
  at-left : (p : ℕ) → 2 * node * half + p ≡ node * width + p
  at-left p = left-at node half p ∙ ap (λ n. node * n + p) (sym two)

  at-right : (p : ℕ) → (2 * node + 1) * half + p ≡ node * width + (half + p)
  at-right p = right-at node half p ∙ ap (λ n. node * n + (half + p)) (sym two)

  -- the place found below the left node
  pub next-left : (place : ℕ) → IsNextBelow nodes (2 * node * half) mark from half place → IsNextBelow nodes (node * width) mark from width place
  next-left place f = record {
    low = f.low;
    high = omega (arith, f.high);
    marked = rw (← at-left place) f.marked;
    before = λ p low high. rw (← at-left p) (f.before p low high);
  }

  none-both : IsUnmarkedBelow nodes (2 * node * half) mark from half → (to : ℕ) → IsUnmarkedBelow nodes ((2 * node + 1) * half) mark (from - half) to → IsUnmarkedBelow nodes (node * width) mark from (half + to)
  none-both left to right p low high = elim (cases_lt p half) [
    | inl below ↦ rw (← at-left p) (left p low below)
    | inr above ↦
        let at : (2 * node + 1) * half + (p - half) ≡ node * width + p = at-right (p - half) ∙ ap (λ n. node * width + n) (omega arith) in
        rw (← at) (right (p - half) (omega arith) (omega arith))
  ]

  -- none there, and the place found below the right node
  pub next-right : (place : ℕ) → IsUnmarkedBelow nodes (2 * node * half) mark from half → IsNextBelow nodes ((2 * node + 1) * half) mark (from - half) half place → IsNextBelow nodes (node * width) mark from width (half + place)
  next-right place left f = record {
    low = omega (arith, f.low);
    high = omega (arith, f.high);
    marked = rw (← at-right place) f.marked;
    before = none-both left place f.before;
  }

  pub next-none : IsUnmarkedBelow nodes (2 * node * half) mark from half → IsUnmarkedBelow nodes ((2 * node + 1) * half) mark (from - half) half → IsUnmarkedBelow nodes (node * width) mark from width
  next-none left right p low high = none-both left half right p low (omega (arith, two))

  pub left-fits : node * width + width ≤ length nodes → 2 * node * half + half ≤ length nodes
  left-fits fits = let e = at-left half in omega arith

  pub right-fits : node * width + width ≤ length nodes → (2 * node + 1) * half + half ≤ length nodes
  right-fits fits = let e = at-right half in omega arith
