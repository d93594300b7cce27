-- Images with a chunk that is made longer.
use Rattle.std.proofs.Common.{◌≡◌, ◌≢◌, inl, inr, ℕ, ◌+◌, ◌-◌, ◌*◌, ◌/◌, ◌<◌, ◌≤◌, max, List, [], ◌++◌, length, get_or, replicate, refl, sym, ◌∙◌, ap, subst, arith, length-append, append-nil}
use Rattle.std.proofs.lemmas.Bool.{cases_eq}
use Rattle.std.proofs.lemmas.List.{get_or-set_same, get_or-set_other, get_or_past, length-set, length-replicate, get_or_append_left, get_or-append_right, get_or-replicate}
use Rattle.ids_outside.specs.Images.{Image, chunk_of, pages_of, byte, IsImage, Grown, Extended}
use Rattle.ids_outside.specs.MemoryDisk.{extended, nine}
use Rattle.ids_outside.proofs.Overlays.{set_past, order}

-- what is so many pages long is whole
pub whole : (n k : ℕ) → n ≡ 2048 * k → n ≡ 2048 * (n / 2048)
whole n k is = omega (arith, is)

pub other-extended : (x : Image) (chunk pages filler j : ℕ) → j ≢ chunk → chunk_of (extended x chunk pages filler) j ≡ chunk_of x j
unfolding extended
other-extended x chunk pages filler j other = get_or-set_other x chunk j (chunk_of x chunk ++ replicate (2048 * pages - length (chunk_of x chunk)) filler) [] other

pub this-extended : (x : Image) (chunk pages filler : ℕ) → chunk < length x
    → chunk_of (extended x chunk pages filler) chunk ≡ chunk_of x chunk ++ replicate (2048 * pages - length (chunk_of x chunk)) filler
unfolding extended
this-extended x chunk pages filler there = get_or-set_same x chunk (chunk_of x chunk ++ replicate (2048 * pages - length (chunk_of x chunk)) filler) [] there

pub extended_past : (x : Image) (chunk pages filler : ℕ) → length x ≤ chunk → extended x chunk pages filler ≡ x
unfolding extended
extended_past x chunk pages filler past = set_past x chunk (chunk_of x chunk ++ replicate (2048 * pages - length (chunk_of x chunk)) filler) past

pub chunks-extended : (x : Image) (chunk pages filler : ℕ) → length (extended x chunk pages filler) ≡ length x
unfolding extended
chunks-extended x chunk pages filler = length-set x chunk (chunk_of x chunk ++ replicate (2048 * pages - length (chunk_of x chunk)) filler)

pub length-extended : (x : Image) (chunk pages filler : ℕ) → chunk < length x
    → length (chunk_of (extended x chunk pages filler) chunk) ≡ max (length (chunk_of x chunk)) (2048 * pages)
length-extended x chunk pages filler there =
    let xs = chunk_of x chunk in
    ap (λ (l : List ℕ). length l) (this-extended x chunk pages filler there) ∙ length-append xs (replicate (2048 * pages - length xs) filler)
    ∙ ap (λ (n : ℕ). length xs + n) (length-replicate (2048 * pages - length xs) filler) ∙ gap (length xs) (2048 * pages)
  where
    gap : (a b : ℕ) → a + (b - a) ≡ max a b
    gap a b = omega arith

-- no chunk gets shorter
pub longer-extended : (x : Image) (chunk pages filler j : ℕ) → length (chunk_of x j) ≤ length (chunk_of (extended x chunk pages filler) j)
longer-extended x chunk pages filler j = elim (cases_eq j chunk) [
  | inr other ↦ omega (arith, ap (λ (l : List ℕ). length l) (other-extended x chunk pages filler j other))
  | inl is ↦ subst (λ (q : ℕ). length (chunk_of x q) ≤ length (chunk_of (extended x chunk pages filler) q)) (sym is) (elim (order chunk (length x)) [
    | inl there ↦ omega (arith, length-extended x chunk pages filler there)
    | inr past ↦ omega (arith, ap (λ (y : Image). length (chunk_of y chunk)) (extended_past x chunk pages filler past))
  ])
]

-- the bytes that were there stay
pub byte-extended : (x : Image) (chunk pages filler j i : ℕ) → i < length (chunk_of x j) → byte (extended x chunk pages filler) j i ≡ byte x j i
byte-extended x chunk pages filler j i lt = elim (cases_eq j chunk) [
  | inr other ↦ ap (λ (l : List ℕ). get_or l i 0) (other-extended x chunk pages filler j other)
  | inl is ↦ this is
]
  where
    this : j ≡ chunk → byte (extended x chunk pages filler) j i ≡ byte x j i
    this is =
        let lt_here : i < length (chunk_of x chunk) = subst (λ (q : ℕ). i < length (chunk_of x q)) is lt in
        subst (λ (q : ℕ). byte (extended x chunk pages filler) q i ≡ byte x q i) (sym is) (elim (order chunk (length x)) [
          | inl there ↦ ap (λ (l : List ℕ). get_or l i 0) (this-extended x chunk pages filler there)
              ∙ get_or_append_left (chunk_of x chunk) (replicate (2048 * pages - length (chunk_of x chunk)) filler) 0 i lt_here
          | inr past ↦ ap (λ (y : Image). byte y chunk i) (extended_past x chunk pages filler past)
        ])

filled : {X : Type 0} (x : X) (n k : ℕ) → get_or (replicate n x) k x ≡ x
filled x n k = elim (order k n) [
  | inl lt ↦ get_or-replicate n k x x lt
  | inr past ↦ get_or_past (replicate n x) k x (omega (arith, past, length-replicate n x))
]

-- filled with zeros, each byte stays as it was
pub zero-extended : (x : Image) (chunk pages i : ℕ) → chunk < length x → byte (extended x chunk pages 0) chunk i ≡ byte x chunk i
zero-extended x chunk pages i there = elim (order i (length (chunk_of x chunk))) [
  | inl lt ↦ byte-extended x chunk pages 0 chunk i lt
  | inr past ↦ behind past
]
  where
    n : ℕ
    n = 2048 * pages - length (chunk_of x chunk)

    behind : length (chunk_of x chunk) ≤ i → byte (extended x chunk pages 0) chunk i ≡ byte x chunk i
    behind past =
        ap (λ (l : List ℕ). get_or l i 0) (this-extended x chunk pages 0 there)
        ∙ get_or-append_right (chunk_of x chunk) (replicate n 0) (length (chunk_of x chunk)) i 0 refl past
        ∙ filled 0 n (i - length (chunk_of x chunk)) ∙ sym (get_or_past (chunk_of x chunk) i 0 past)

-- a longer image is one of whole pages
pub image-extended : (x : Image) (chunk pages filler : ℕ) → IsImage x → IsImage (extended x chunk pages filler)
image-extended x chunk pages filler is = record {
  chunks = chunks-extended x chunk pages filler ∙ is.chunks;
  pages = λ j. elim (cases_eq j chunk) [
    | inr other ↦ subst (λ (l : List ℕ). length l ≡ 2048 * (length l / 2048)) (sym (other-extended x chunk pages filler j other)) (is.pages j)
    | inl here ↦ subst (λ (q : ℕ). length (chunk_of (extended x chunk pages filler) q) ≡ 2048 * pages_of (extended x chunk pages filler) q) (sym here) (elim (order chunk (length x)) [
      | inl there ↦
          subst (λ (n : ℕ). n ≡ 2048 * (n / 2048)) (sym (length-extended x chunk pages filler there)) (most (length (chunk_of x chunk)) (2048 * pages) (pages_of x chunk) pages (is.pages chunk) refl)
      | inr past ↦ subst (λ (y : Image). length (chunk_of y chunk) ≡ 2048 * pages_of y chunk) (sym (extended_past x chunk pages filler past)) (is.pages chunk)
    ])
  ];
}
  where
    most : (a b p q : ℕ) → a ≡ 2048 * p → b ≡ 2048 * q → max a b ≡ 2048 * (max a b / 2048)
    most a b p q one two = elim (order a b) [
      | inl lt ↦ (let e : max a b ≡ 2048 * q = omega (arith, lt, two) in whole (max a b) q e)
      | inr le ↦ (let e : max a b ≡ 2048 * p = omega (arith, le, one) in whole (max a b) p e)
    ]

-- the greater of two counts of pages
pub pages_below : (a p q n b : ℕ) → a ≡ 2048 * p → n ≡ max a (2048 * q) → p < b → q < b → n / 2048 < b
pages_below a p q n b one is first second = elim (order a (2048 * q)) [
  | inl lt ↦ (let e : n ≡ 2048 * q = omega (arith, is, lt) in omega (arith, e, second))
  | inr le ↦ (let e : n ≡ 2048 * p = omega (arith, is, le, one) in omega (arith, e, first))
]

pub pages_enough : (a q n : ℕ) → n ≡ max a (2048 * q) → q ≤ n / 2048
pages_enough a q n is = omega (arith, is)

pub pages_rise : (a b : ℕ) → a ≤ b → a / 2048 ≤ b / 2048
pages_rise a b le = omega (arith, le)

pub small-extended : (x : Image) (chunk pages b : ℕ) → IsImage x → ((j : ℕ) → pages_of x j < b) → pages < b → (j : ℕ) → pages_of (extended x chunk pages 0) j < b
small-extended x chunk pages b is small fits j = elim (cases_eq j chunk) [
  | inr other ↦ subst (λ (l : List ℕ). length l / 2048 < b) (sym (other-extended x chunk pages 0 j other)) (small j)
  | inl here ↦ subst (λ (q : ℕ). pages_of (extended x chunk pages 0) q < b) (sym here) (elim (order chunk (length x)) [
    | inl there ↦ pages_below (length (chunk_of x chunk)) (pages_of x chunk) pages (length (chunk_of (extended x chunk pages 0) chunk)) b (is.pages chunk) (length-extended x chunk pages 0 there) (small chunk) fits
    | inr past ↦ subst (λ (y : Image). pages_of y chunk < b) (sym (extended_past x chunk pages 0 past)) (small chunk)
  ])
]

pub extended-done : (x : Image) (chunk pages : ℕ) → chunk < length x → Extended chunk pages x (extended x chunk pages 0)
extended-done x chunk pages there = record {
  chunks = chunks-extended x chunk pages 0;
  others = λ j other. other-extended x chunk pages 0 j other;
  longer = length-extended x chunk pages 0 there;
  bytes = λ i. zero-extended x chunk pages i there;
}

-- whole pages behind whole pages
pub more_pages : (a b p q : ℕ) → a ≡ 2048 * p → b ≡ 2048 * q → a ≤ b → b ≡ a + 2048 * (q - p)
more_pages a b p q one two le = omega (arith, one, two, le)

pub extended-grown : (x : Image) (chunk pages : ℕ) → IsImage x → chunk < length x → Grown chunk pages x (extended x chunk pages 0)
extended-grown x chunk pages is there =
    let y = extended x chunk pages 0 in
    let long = image-extended x chunk pages 0 is in
    record {
      chunks = chunks-extended x chunk pages 0;
      others = λ j other. other-extended x chunk pages 0 j other;
      longer = (
        pages_of y chunk - pages_of x chunk,
        more_pages (length (chunk_of x chunk)) (length (chunk_of y chunk)) (pages_of x chunk) (pages_of y chunk) (is.pages chunk) (long.pages chunk) (longer-extended x chunk pages 0 chunk),
      );
      no_longer = omega (arith, length-extended x chunk pages 0 there);
      bytes = λ i lt. byte-extended x chunk pages 0 chunk i lt;
    }

-- a grow that is not done
pub grown_same : (chunk pages : ℕ) (x : Image) → Grown chunk pages x x
grown_same chunk pages x = record {
  chunks = refl;
  others = λ j other. refl;
  longer = (0, omega arith);
  no_longer = omega arith;
  bytes = λ i lt. refl;
}

-- chunks that are not there are empty
pub chunk_of-nine : (x : Image) (j : ℕ) → chunk_of (nine x) j ≡ chunk_of x j
unfolding nine
chunk_of-nine x j = elim (order j (length x)) [
  | inl there ↦ get_or_append_left x (replicate (9 - length x) []) [] j there
  | inr past ↦ get_or-append_right x (replicate (9 - length x) []) (length x) j [] refl past ∙ filled [] (9 - length x) (j - length x) ∙ sym (get_or_past x j [] past)
]

pub chunks-nine : (x : Image) → length x ≤ 9 → length (nine x) ≡ 9
unfolding nine
chunks-nine x few = length-append x (replicate (9 - length x) []) ∙ ap (λ (n : ℕ). length x + n) (length-replicate (9 - length x) []) ∙ (let e : length x + (9 - length x) ≡ 9 = omega (arith, few) in e)

pub nine-full : (x : Image) → length x ≡ 9 → nine x ≡ x
unfolding nine
nine-full x full = let none : 9 - length x ≡ 0 = omega (arith, full) in ap (λ (n : ℕ). x ++ replicate n []) none ∙ append-nil x
