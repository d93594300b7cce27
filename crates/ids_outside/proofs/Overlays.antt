-- Chunks and images with other bytes in a span.
use Rattle.std.proofs.Common.{◌≡◌, ◌≢◌, ◌⊎◌, inl, inr, ℕ, zero, suc, ◌+◌, ◌-◌, ◌<◌, ◌≤◌, min, List, [], ◌∷◌, ◌++◌, length, get_or, set, take, drop, replicate, refl, sym, ◌∙◌, ap, subst, arith, length-append, length-drop, drop-cons}
use Rattle.std.proofs.lemmas.Bool.{cases_eq}
use Rattle.std.proofs.lemmas.Bool.Decides.{nat_tests}
use Rattle.std.proofs.lemmas.List.{get_or-set_same, get_or-set_other, get_or_past, length-set, ext_get_or, get_or_append_left, get_or-append_right, get_or-take, get_or-drop, length-take-le, drop-drop, length-replicate, get_or-replicate}
use Rattle.ids_outside.specs.Images.{Image, chunk_of, byte, bytes_of, SameBut, Range, Written}
use Rattle.ids_outside.specs.MemoryDisk.{table, within_span, overlay, overlaid, put}

pub length-table : (f : ℕ → ℕ) (k n : ℕ) → length (table f k n) ≡ n
length-table f k zero = refl
length-table f k (suc n) = omega (arith, length-table f (suc k) n)

pub get_or-table : (f : ℕ → ℕ) (k n i : ℕ) → i < n → get_or (table f k n) i 0 ≡ f (k + i)
get_or-table f k zero i lt = absurd (omega (arith, lt))
get_or-table f k (suc n) zero lt = let e : k ≡ k + 0 = omega arith in ap f e
get_or-table f k (suc n) (suc i) lt = get_or-table f (suc k) n i (omega (arith, lt)) ∙ (let e : suc k + i ≡ k + suc i = omega arith in ap f e)

pub span_in : (at n i old new : ℕ) → at ≤ i → i < at + n → within_span at n i old new ≡ new
span_in at n i old new le lt = grind (arith, nat_tests)

pub span_before : (at n i old new : ℕ) → i < at → within_span at n i old new ≡ old
span_before at n i old new lt = grind (arith, nat_tests)

pub span_behind : (at n i old new : ℕ) → at ≤ i → at + n ≤ i → within_span at n i old new ≡ old
span_behind at n i old new le lt = grind (arith, nat_tests)

pub order : (a b : ℕ) → (a < b) ⊎ (b ≤ a)
order a b = grind arith

pub length-overlay : (at n : ℕ) (xs : List ℕ) (new : ℕ → ℕ) → length (overlay at n xs new) ≡ length xs
unfolding overlay
length-overlay at n xs new = length-table (λ i. within_span at n i (get_or xs i 0) (new i)) 0 (length xs)

overlay-at : (at n : ℕ) (xs : List ℕ) (new : ℕ → ℕ) (i : ℕ) → i < length xs → get_or (overlay at n xs new) i 0 ≡ within_span at n i (get_or xs i 0) (new i)
unfolding overlay
overlay-at at n xs new i lt =
    get_or-table (λ q. within_span at n q (get_or xs q 0) (new q)) 0 (length xs) i lt
    ∙ (let e : 0 + i ≡ i = omega arith in ap (λ (q : ℕ). within_span at n q (get_or xs q 0) (new q)) e)

pub overlay-in : (at n : ℕ) (xs : List ℕ) (new : ℕ → ℕ) (i : ℕ) → i < length xs → at ≤ i → i < at + n → get_or (overlay at n xs new) i 0 ≡ new i
overlay-in at n xs new i long le lt = overlay-at at n xs new i long ∙ span_in at n i (get_or xs i 0) (new i) le lt

pub overlay-out : (at n : ℕ) (xs : List ℕ) (new : ℕ → ℕ) (i : ℕ) → ((at ≤ i) × (i < at + n) → ⊥) → get_or (overlay at n xs new) i 0 ≡ get_or xs i 0
overlay-out at n xs new i out = elim (order i (length xs)) [
  | inl long ↦ elim (order i at) [
    | inl before ↦ overlay-at at n xs new i long ∙ span_before at n i (get_or xs i 0) (new i) before
    | inr from ↦ elim (order i (at + n)) [
      | inl lt ↦ absurd (out (from, lt))
      | inr behind ↦ overlay-at at n xs new i long ∙ span_behind at n i (get_or xs i 0) (new i) from behind
    ]
  ]
  | inr past ↦ get_or_past (overlay at n xs new) i 0 (omega (arith, past, length-overlay at n xs new)) ∙ sym (get_or_past xs i 0 past)
]

pub set_past : {X : Type 0} (xs : List X) (i : ℕ) (x : X) → length xs ≤ i → set xs i x ≡ xs
set_past [] i x le = refl
set_past (y ∷ xs) zero x le = absurd (omega (arith, le))
set_past (y ∷ xs) (suc i) x le = ap (λ l. y ∷ l) (set_past xs i x (omega (arith, le)))

-- the chunks of an image with one overlaid
pub other-overlaid : (x : Image) (chunk at n : ℕ) (new : ℕ → ℕ) (j : ℕ) → j ≢ chunk → chunk_of (overlaid x chunk at n new) j ≡ chunk_of x j
unfolding overlaid
other-overlaid x chunk at n new j other = get_or-set_other x chunk j (overlay at n (chunk_of x chunk) new) [] other

pub this-overlaid : (x : Image) (chunk at n : ℕ) (new : ℕ → ℕ) → chunk_of (overlaid x chunk at n new) chunk ≡ overlay at n (chunk_of x chunk) new
unfolding overlaid overlay
this-overlaid x chunk at n new = elim (order chunk (length x)) [
  | inl there ↦ get_or-set_same x chunk (overlay at n (chunk_of x chunk) new) [] there
  | inr past ↦
      let none : chunk_of x chunk ≡ [] = get_or_past x chunk [] past in
      ap (λ (y : Image). chunk_of y chunk) (set_past x chunk (overlay at n (chunk_of x chunk) new) past) ∙ none
      ∙ ap (λ (l : List ℕ). overlay at n l new) (sym none)
]

pub length-overlaid : (x : Image) (chunk at n : ℕ) (new : ℕ → ℕ) (j : ℕ) → length (chunk_of (overlaid x chunk at n new) j) ≡ length (chunk_of x j)
length-overlaid x chunk at n new j = elim (cases_eq j chunk) [
  | inl is ↦ subst (λ (q : ℕ). length (chunk_of (overlaid x chunk at n new) q) ≡ length (chunk_of x q)) (sym is)
      (ap (λ (l : List ℕ). length l) (this-overlaid x chunk at n new) ∙ length-overlay at n (chunk_of x chunk) new)
  | inr other ↦ ap (λ (l : List ℕ). length l) (other-overlaid x chunk at n new j other)
]

pub byte-outside : (x : Image) (chunk at n : ℕ) (new : ℕ → ℕ) (j i : ℕ) → ¬ Range chunk at n j i → byte (overlaid x chunk at n new) j i ≡ byte x j i
byte-outside x chunk at n new j i out = elim (cases_eq j chunk) [
  | inl is ↦ subst (λ (q : ℕ). byte (overlaid x chunk at n new) q i ≡ byte x q i) (sym is)
      (ap (λ (l : List ℕ). get_or l i 0) (this-overlaid x chunk at n new) ∙ overlay-out at n (chunk_of x chunk) new i (λ h. out (is, h.0, h.1)))
  | inr other ↦ ap (λ (l : List ℕ). get_or l i 0) (other-overlaid x chunk at n new j other)
]

pub byte-inside : (x : Image) (chunk at n : ℕ) (new : ℕ → ℕ) (i : ℕ) → i < length (chunk_of x chunk) → at ≤ i → i < at + n → byte (overlaid x chunk at n new) chunk i ≡ new i
byte-inside x chunk at n new i long le lt = ap (λ (l : List ℕ). get_or l i 0) (this-overlaid x chunk at n new) ∙ overlay-in at n (chunk_of x chunk) new i long le lt

pub chunks-overlaid : (x : Image) (chunk at n : ℕ) (new : ℕ → ℕ) → length (overlaid x chunk at n new) ≡ length x
unfolding overlaid
chunks-overlaid x chunk at n new = length-set x chunk (overlay at n (chunk_of x chunk) new)

pub overlaid-same : (x : Image) (chunk at n : ℕ) (new : ℕ → ℕ) → SameBut (Range chunk at n) x (overlaid x chunk at n new)
overlaid-same x chunk at n new = record { chunks = chunks-overlaid x chunk at n new; lengths = length-overlaid x chunk at n new; bytes = byte-outside x chunk at n new }

bytes_of-is : (y : Image) (chunk at : ℕ) (bytes : List ℕ) → ((k : ℕ) → k < length bytes → byte y chunk (at + k) ≡ get_or bytes k 0) → bytes_of y chunk at (length bytes) ≡ bytes
unfolding bytes_of
bytes_of-is y chunk at [] same = refl
bytes_of-is y chunk at (b ∷ bytes) same =
    let e : at + 0 ≡ at = omega arith in
    let here : byte y chunk at ≡ b = subst (λ (q : ℕ). byte y chunk q ≡ b) e (same 0 (omega arith)) in
    let rest : bytes_of y chunk (suc at) (length bytes) ≡ bytes = bytes_of-is y chunk (suc at) bytes (λ k lt.
    let f : at + suc k ≡ suc at + k = omega arith in
    subst (λ (q : ℕ). byte y chunk q ≡ get_or bytes k 0) f (same (suc k) (omega (arith, lt)))) in
    (λ i. here i ∷ rest i)

pub put-written : (x : Image) (chunk at : ℕ) (bytes : List ℕ) → at + length bytes ≤ length (chunk_of x chunk) → Written chunk at bytes x (put x chunk at bytes)
put-written x chunk at bytes fits = record {
  elsewhere = overlaid-same x chunk at (length bytes) (λ i. get_or bytes (i - at) 0);
  there = bytes_of-is (put x chunk at bytes) chunk at bytes (λ k lt.
      let e : at + k - at ≡ k = omega arith in
      byte-inside x chunk at (length bytes) (λ i. get_or bytes (i - at) 0) (at + k) (omega (arith, fits, lt)) (omega arith) (omega (arith, lt))
      ∙ ap (λ (q : ℕ). get_or bytes q 0) e);
}

-- a part that is copied over the middle of a chunk, as far as the chunk goes
pub spliced : (at n k : ℕ) (part xs : List ℕ) (new : ℕ → ℕ) → at + k ≤ length xs → length part ≡ k → k ≡ min n (length xs - at)
    → ((i : ℕ) → i < k → get_or part i 0 ≡ new (at + i))
    → take at xs ++ (part ++ drop (at + k) xs) ≡ overlay at n xs new
spliced at n k part xs new fits long whole same =
    ext_get_or 0 (take at xs ++ (part ++ drop (at + k) xs)) (overlay at n xs new)
    (omega (arith, size, length-overlay at n xs new)) (λ i lt. at_each i (omega (arith, lt, size)))
  where
    front : length (take at xs) ≡ at
    front = length-take-le at xs (omega (arith, fits))

    size : length (take at xs ++ (part ++ drop (at + k) xs)) ≡ length xs
    size = omega (arith, fits, front, long, length-append (take at xs) (part ++ drop (at + k) xs), length-append part (drop (at + k) xs), length-drop (at + k) xs)

    behind : (i : ℕ) → at ≤ i → get_or (take at xs ++ (part ++ drop (at + k) xs)) i 0 ≡ get_or (part ++ drop (at + k) xs) (i - at) 0
    behind i le = get_or-append_right (take at xs) (part ++ drop (at + k) xs) at i 0 front le

    at_each : (i : ℕ) → i < length xs → get_or (take at xs ++ (part ++ drop (at + k) xs)) i 0 ≡ get_or (overlay at n xs new) i 0
    at_each i there = elim (order i at) [
      | inl before ↦
          get_or_append_left (take at xs) (part ++ drop (at + k) xs) 0 i (omega (arith, front, before)) ∙ get_or-take at xs i 0 before
          ∙ sym (overlay-out at n xs new i (λ h. omega (arith, h.0, before)))
      | inr from ↦ elim (order i (at + k)) [
        | inl inside ↦
            let e : at + (i - at) ≡ i = omega (arith, from) in
            behind i from ∙ get_or_append_left part (drop (at + k) xs) 0 (i - at) (omega (arith, long, from, inside))
            ∙ same (i - at) (omega (arith, from, inside)) ∙ ap new e
            ∙ sym (overlay-in at n xs new i there from (omega (arith, inside, whole)))
        | inr past ↦
            let e : at + k + (i - at - k) ≡ i = omega (arith, past) in
            behind i from ∙ get_or-append_right part (drop (at + k) xs) k (i - at) 0 long (omega (arith, past))
            ∙ get_or-drop (at + k) xs (i - at - k) 0 ∙ ap (λ (q : ℕ). get_or xs q 0) e
            ∙ sym (overlay-out at n xs new i (λ h. omega (arith, h.1, past, whole, there)))
      ]
    ]

mid : (at n k rest : ℕ) (part xs : List ℕ) (new : ℕ → ℕ) → at ≤ length xs → k ≡ min n (length xs - at) → rest ≡ k → length part ≡ k
    → ((i : ℕ) → i < k → get_or part i 0 ≡ new (at + i))
    → take at xs ++ (part ++ drop rest (drop at xs)) ≡ overlay at n xs new
mid at n k rest part xs new there whole same_k long same =
    ap (λ (l : List ℕ). take at xs ++ (part ++ l)) (drop-drop rest at xs ∙ ap (λ (q : ℕ). drop (at + q) xs) same_k)
    ∙ spliced at n k part xs new (omega (arith, there, whole)) long whole same

-- bytes that are copied over the middle of a chunk, as far as it goes
pub copied_mid : (at k rest : ℕ) (part bytes xs : List ℕ) → at ≤ length xs → k ≡ min (length bytes) (length xs - at) → rest ≡ k → part ≡ take k bytes
    → take at xs ++ (part ++ drop rest (drop at xs)) ≡ overlay at (length bytes) xs (λ i. get_or bytes (i - at) 0)
copied_mid at k rest part bytes xs there whole same_k is =
    mid at (length bytes) k rest part xs (λ i. get_or bytes (i - at) 0) there whole same_k
    (ap (λ (l : List ℕ). length l) is ∙ length-take-le k bytes (omega (arith, whole)))
    (λ i lt. ap (λ (l : List ℕ). get_or l i 0) is ∙ get_or-take k bytes i 0 lt ∙ (let e : i ≡ at + i - at = omega arith in ap (λ (q : ℕ). get_or bytes q 0) e))

-- a byte that fills the middle of a chunk
pub filled_mid : (at n k rest byte : ℕ) (part xs : List ℕ) → at ≤ length xs → k ≡ min n (length xs - at) → rest ≡ k → part ≡ replicate k byte
    → take at xs ++ (part ++ drop rest (drop at xs)) ≡ overlay at n xs (λ i. byte)
filled_mid at n k rest byte part xs there whole same_k is =
    mid at n k rest part xs (λ i. byte) there whole same_k (ap (λ (l : List ℕ). length l) is ∙ length-replicate k byte)
    (λ i lt. ap (λ (l : List ℕ). get_or l i 0) is ∙ get_or-replicate k i byte 0 lt)

-- a span that begins behind a chunk's end
pub overlay_past : (at n : ℕ) (xs : List ℕ) (new : ℕ → ℕ) → length xs ≤ at → xs ≡ overlay at n xs new
overlay_past at n xs new past =
    ext_get_or 0 xs (overlay at n xs new) (sym (length-overlay at n xs new)) (λ i lt. sym (overlay-out at n xs new i (λ h. omega (arith, h.0, lt, past))))

-- a span of a chunk that is not there
pub overlaid_past : (x : Image) (chunk at n : ℕ) (new : ℕ → ℕ) → length x ≤ chunk → overlaid x chunk at n new ≡ x
unfolding overlaid
overlaid_past x chunk at n new le = set_past x chunk (overlay at n (chunk_of x chunk) new) le

pub bytes_of-take : (y : Image) (chunk at n : ℕ) → at + n ≤ length (chunk_of y chunk) → bytes_of y chunk at n ≡ take n (drop at (chunk_of y chunk))
unfolding bytes_of
bytes_of-take y chunk at zero fits = refl
bytes_of-take y chunk at (suc n) fits =
    let rest : bytes_of y chunk (suc at) n ≡ take n (drop (suc at) (chunk_of y chunk)) = bytes_of-take y chunk (suc at) n (omega (arith, fits)) in
    ap (λ (l : List ℕ). byte y chunk at ∷ l) rest ∙ sym (ap (λ (l : List ℕ). take (suc n) l) (drop-cons (chunk_of y chunk) at 0 (omega (arith, fits))))

pub bytes_of-none : (y : Image) (chunk at : ℕ) (xs : List ℕ) → length xs ≡ 0 → xs ≡ bytes_of y chunk at (length xs)
unfolding bytes_of
bytes_of-none y chunk at [] none = refl
bytes_of-none y chunk at (x ∷ xs) none = absurd (omega (arith, none))
