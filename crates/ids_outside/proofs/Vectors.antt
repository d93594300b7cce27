-- Chunks kept as vectors.
use Rattle.std.proofs.Common.{if◌then◌else◌, Bool, true, false, inl, inr, min, ◌^◌, lit<, ◌≡◌, ℕ, ◌+◌, ◌-◌, ◌*◌, ◌<◌, ◌≤◌, List, [], ◌∷◌, ◌++◌, length, get_or, set, take, drop, map, replicate, Vec, length-append, append_assoc, append-nil, zero, suc, refl, sym, ◌∙◌, ap, subst, arith}
use Rattle.std.proofs.lemmas.List.{map-set, get_or-map, length-map, get_or_past, with_items_is, map-append, take_all, length-take-le, get_or-take, length-replicate}
use Rattle.std.specs.Vec.{with_items}
use Rattle.std.specs.declared.alloc.Global.{Global}
use Rattle.ids_outside.specs.Images.{Image, chunk_of, bytes_of}
use Rattle.ids_outside.specs.MemoryDisk.{images, nine, put, overlay, overlaid, extended, IsMemoryImage}
use Rattle.ids_outside.proofs.Overlays.{overlaid_past, bytes_of-take, set_past, length-overlay, chunks-overlaid, order}
use Rattle.ids_outside.proofs.Extensions.{nine-full, chunks-extended, whole}

pub chunk_of-images : (vs : List (Vec ℕ Global)) (chunk : ℕ) (v : Vec ℕ Global) → chunk < length vs → v ≡ get_or vs chunk v → chunk_of (images vs) chunk ≡ v.items
chunk_of-images vs chunk v lt is = get_or-map (λ (w : Vec ℕ Global). w.items) vs chunk v [] lt ∙ ap (λ (w : Vec ℕ Global). w.items) (sym is)

pub length-images : (vs : List (Vec ℕ Global)) → length (images vs) ≡ length vs
length-images vs = length-map vs (λ (w : Vec ℕ Global). w.items)

pub set-images : (vs : List (Vec ℕ Global)) (chunk : ℕ) (new : Vec ℕ Global) → images (set vs chunk new) ≡ set (images vs) chunk new.items
set-images vs chunk new = map-set (λ (w : Vec ℕ Global). w.items) vs chunk new

-- a chunk that is overlaid
pub overlay_one : (vs : List (Vec ℕ Global)) (chunk at n : ℕ) (byte : ℕ → ℕ) (v : Vec ℕ Global) (l ws : List ℕ) → chunk < length vs → v ≡ get_or vs chunk v
    → l ≡ v.items → ws ≡ overlay at n l byte → images (set vs chunk (with_items v ws)) ≡ overlaid (images vs) chunk at n byte
unfolding overlaid
overlay_one vs chunk at n byte v l ws lt is same done =
    let size : length ws ≡ v.len = omega (arith, ap (λ (xs : List ℕ). length xs) done, length-overlay at n l byte, ap (λ (xs : List ℕ). length xs) same, v.ok.0) in
    set-images vs chunk (with_items v ws) ∙ ap (λ (xs : List ℕ). set (images vs) chunk xs)
    (with_items_is v ws size ∙ done ∙ ap (λ (xs : List ℕ). overlay at n xs byte) (same ∙ sym (chunk_of-images vs chunk v lt is)))

pub overlay_none : (vs : List (Vec ℕ Global)) (chunk at n : ℕ) (byte : ℕ → ℕ) → length vs ≤ chunk → images vs ≡ overlaid (images vs) chunk at n byte
overlay_none vs chunk at n byte past = sym (overlaid_past (images vs) chunk at n byte (omega (arith, past, length-images vs)))

-- a chunk that is extended
pub extend_one : (vs : List (Vec ℕ Global)) (chunk pages byte w n : ℕ) (old new : Vec ℕ Global) → chunk < length vs → old ≡ get_or vs chunk old
    → w ≡ 2048 * pages → n ≡ length old.items → n ≤ w → new.items ≡ take w old.items ++ replicate (w - n) byte
    → images (set vs chunk new) ≡ extended (images vs) chunk pages byte
unfolding extended
extend_one vs chunk pages byte w n old new lt is wide long below done =
    let here : old.items ≡ chunk_of (images vs) chunk = sym (chunk_of-images vs chunk old lt is) in
    let whole : take w old.items ≡ old.items = take_all w old.items (omega (arith, long, below)) in
    set-images vs chunk new ∙ ap (λ (l : List ℕ). set (images vs) chunk l)
    (done ∙ (λ i. whole i ++ replicate (wide i - long i) byte) ∙ ap (λ (l : List ℕ). l ++ replicate (2048 * pages - length l) byte) here)

set_same : {X : Type 0} (xs : List X) (i : ℕ) (d : X) → set xs i (get_or xs i d) ≡ xs
set_same [] i d = refl
set_same (x ∷ xs) zero d = refl
set_same (x ∷ xs) (suc i) d = ap (λ l. x ∷ l) (set_same xs i d)

-- a chunk that was long enough
pub extend_enough : (vs : List (Vec ℕ Global)) (chunk pages byte n : ℕ) (old : Vec ℕ Global) → chunk < length vs → old ≡ get_or vs chunk old
    → n ≡ length old.items → 2048 * pages ≤ n → images (set vs chunk old) ≡ extended (images vs) chunk pages byte
unfolding extended
extend_enough vs chunk pages byte n old lt is long enough =
    let here : old.items ≡ chunk_of (images vs) chunk = sym (chunk_of-images vs chunk old lt is) in
    let none : 2048 * pages - length old.items ≡ 0 = omega (arith, long, enough) in
    set-images vs chunk old ∙ ap (λ (l : List ℕ). set (images vs) chunk l)
    (sym (append-nil old.items) ∙ ap (λ (k : ℕ). old.items ++ replicate k byte) (sym none) ∙ ap (λ (l : List ℕ). l ++ replicate (2048 * pages - length l) byte) here)

-- a chunk with the same bytes
pub set_again : (vs : List (Vec ℕ Global)) (chunk : ℕ) (old new : Vec ℕ Global) → chunk < length vs → old ≡ get_or vs chunk old
    → new.items ≡ old.items → images (set vs chunk new) ≡ images vs
set_again vs chunk old new lt is same =
    set-images vs chunk new ∙ ap (λ (l : List ℕ). set (images vs) chunk l) (same ∙ sym (chunk_of-images vs chunk old lt is)) ∙ set_same (images vs) chunk []

pub extend_none : (vs : List (Vec ℕ Global)) (chunk pages byte : ℕ) → length vs ≤ chunk → images vs ≡ extended (images vs) chunk pages byte
unfolding extended
extend_none vs chunk pages byte past =
    sym (set_past (images vs) chunk (chunk_of (images vs) chunk ++ replicate (2048 * pages - length (chunk_of (images vs) chunk)) byte) (omega (arith, past, length-images vs)))

replicate-front : (n : ℕ) → 0 < n → [] ∷ replicate (n - 1) [] ≡ replicate {A = List ℕ} n []
replicate-front zero lt = absurd (omega (arith, lt))
replicate-front (suc n) lt = let e : suc n - 1 ≡ n = omega arith in ap (λ (k : ℕ). [] ∷ replicate k []) e

-- an empty vector more
pub nine-push : (vs ws : List (Vec ℕ Global)) (v : Vec ℕ Global) → v.items ≡ [] → length vs < 9 → ws ≡ vs ++ v ∷ [] → nine (images ws) ≡ nine (images vs)
unfolding nine
nine-push vs ws v none few is =
    let one : images ws ≡ images vs ++ [] ∷ [] = ap (λ (l : List (Vec ℕ Global)). images l) is ∙ map-append (λ (w : Vec ℕ Global). w.items) vs (v ∷ []) ∙ ap (λ (l : List ℕ). images vs ++ l ∷ []) none in
    let rest : 9 - length (images ws) ≡ 9 - length (images vs) - 1 = omega (arith, ap (λ (x : List (List ℕ)). length x) one, length-append (images vs) ([] ∷ [])) in
    (λ i. one i ++ replicate (rest i) []) ∙ append_assoc (images vs) ([] ∷ []) (replicate (9 - length (images vs) - 1) [])
    ∙ ap (λ (l : List (List ℕ)). images vs ++ l) (replicate-front (9 - length (images vs)) (omega (arith, few, length-images vs)))

pub read_part : (vs : List (Vec ℕ Global)) (chunk at k n : ℕ) (l into : List ℕ) (v : Vec ℕ Global) → chunk < length vs → v ≡ get_or vs chunk v
    → at + n ≤ length (chunk_of (images vs) chunk) → l ≡ v.items → k ≡ n → into ≡ take k (drop at l) → into ≡ bytes_of (images vs) chunk at n
read_part vs chunk at k n l into v lt is fits same_l same_k read =
    let here : l ≡ chunk_of (images vs) chunk = same_l ∙ sym (chunk_of-images vs chunk v lt is) in
    read ∙ (λ i. take (same_k i) (drop at (here i))) ∙ sym (bytes_of-take (images vs) chunk at n fits)

-- a chunk that is not there has no bytes
pub none_there : (vs : List (Vec ℕ Global)) (chunk n at : ℕ) → length vs ≤ chunk → at + n ≤ length (chunk_of (images vs) chunk) → n ≡ 0
none_there vs chunk n at past fits =
    let none : chunk_of (images vs) chunk ≡ [] = get_or_past (images vs) chunk [] (omega (arith, past, length-images vs)) in
    omega (arith, fits, ap (λ (l : List ℕ). length l) none)

-- what a read gives after a write, and the count of chunks
pub wrote : (old new : List (Vec ℕ Global)) (x : Image) (chunk at : ℕ) (bytes : List ℕ) → nine (images old) ≡ x → length old ≡ 9 → images new ≡ put (images old) chunk at bytes
    → (nine (images new) ≡ put x chunk at bytes) × (length new ≡ 9)
wrote old new x chunk at bytes same full done =
    let here : images old ≡ x = sym (nine-full (images old) (length-images old ∙ full)) ∙ same in
    let long : length (images new) ≡ 9 = ap (λ (y : Image). length y) done ∙ chunks-overlaid (images old) chunk at (length bytes) (λ i. get_or bytes (i - at) 0) ∙ length-images old ∙ full in
    (nine-full (images new) long ∙ done ∙ ap (λ (y : Image). put y chunk at bytes) here, sym (length-images new) ∙ long)

-- what it had at first stays, whatever becomes of the image
pub first_kept : (b : Bool) (first image image_new : List (Vec ℕ Global)) (x : Image) → b ≡ true
    → nine (images (if b then first else image)) ≡ x → nine (images (if b then first else image_new)) ≡ x
first_kept true first image image_new x on is = is
first_kept false first image image_new x on is = cc

-- what a read gives after a grow, and the count of chunks
pub grew : (old new : List (Vec ℕ Global)) (x : Image) (chunk pages : ℕ) → nine (images old) ≡ x → length old ≡ 9 → images new ≡ extended (images old) chunk pages 0
    → (nine (images new) ≡ extended x chunk pages 0) × (length new ≡ 9)
grew old new x chunk pages same full done =
    let here : images old ≡ x = sym (nine-full (images old) (length-images old ∙ full)) ∙ same in
    let long : length (images new) ≡ 9 = ap (λ (y : Image). length y) done ∙ chunks-extended (images old) chunk pages 0 ∙ length-images old ∙ full in
    (nine-full (images new) long ∙ done ∙ ap (λ (y : Image). extended y chunk pages 0) here, sym (length-images new) ∙ long)

-- zero pages are whole
pub zeros_fit : (pages : List ℕ) (count : ℕ) → count ≡ min (length pages) 9 → ((k : ℕ) → get_or pages k 0 < 2 ^ 32)
    → IsMemoryImage (map (λ p. replicate (2048 * p) 0) (take count pages))
zeros_fit pages count is fits = record {
  chunks = omega (arith, long, is);
  pages = λ j. whole (length (chunk_of x j)) (some j) (size j);
  fits = λ j. let lt : some j < 2 ^ 32 = below j in omega (arith, size j, lt);
}
  where
    x : Image
    x = map (λ p. replicate (2048 * p) 0) (take count pages)

    long : length x ≡ count
    long = length-map (take count pages) (λ p. replicate (2048 * p) 0) ∙ length-take-le count pages (omega (arith, is))

    -- the pages of a chunk
    some : ℕ → ℕ
    some j = get_or (take count pages) j 0

    size : (j : ℕ) → length (chunk_of x j) ≡ 2048 * some j
    size j = elim (order j count) [
      | inl lt ↦ ap (λ (l : List ℕ). length l) (get_or-map (λ p. replicate (2048 * p) 0) (take count pages) j 0 [] (omega (arith, lt, length-take-le count pages (omega (arith, is)))))
          ∙ length-replicate (2048 * some j) 0
      | inr past ↦
          let none : some j ≡ 0 = get_or_past (take count pages) j 0 (omega (arith, past, length-take-le count pages (omega (arith, is)))) in
          ap (λ (l : List ℕ). length l) (get_or_past x j [] (omega (arith, past, long))) ∙ (let e : 0 ≡ 2048 * some j = omega (arith, none) in e)
    ]

    below : (j : ℕ) → some j < 2 ^ 32
    below j = elim (order j count) [
      | inl lt ↦ subst (λ (n : ℕ). n < 2 ^ 32) (sym (get_or-take count pages j 0 lt)) (fits j)
      | inr past ↦
          let none : some j ≡ 0 = get_or_past (take count pages) j 0 (omega (arith, past, length-take-le count pages (omega (arith, is)))) in
          subst (λ (n : ℕ). n < 2 ^ 32) (sym none) (lit< tt)
    ]
