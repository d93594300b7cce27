-- Numbers in bodies, and bodies that are filled from the front.
use Rattle.std.proofs.Common.{◌≡◌, ◌<◌, ◌≤◌, ℕ, ◌+◌, ◌-◌, ◌^◌, List, [], ◌∷◌, ◌++◌, length, get_or, take, drop, replicate, refl, sym, ◌∙◌, ap, arith}
use Rattle.std.specs.Int.{w64, to_be_bytes, from_be_bytes}
use Rattle.std.proofs.Math.Seq.{take-append_seam, drop-append-add}
use Rattle.std.proofs.lemmas.List.{get_or-append-add, take-append-drop, drop-replicate, length-append, length-replicate}
use Rattle.std.proofs.lemmas.Nat.{from_be_bytes-to_be_bytes_8}
use Rattle.std.proofs.lemmas.Slice.{take-put_mid, drop-put_mid}
use borrow.Rule.Slice.PartMut.{put_mid}
use Rattle.chunk_map.specs.Layouts.{zeros}

-- the number that stands behind a front
pub number_of_eight : (front rest : List ℕ) (n at : ℕ) (body : List ℕ) → n < 2 ^ 64 → length front ≡ at → body ≡ front ++ (to_be_bytes w64 n ++ rest)
    → from_be_bytes w64 (get_or body at 0 ∷ get_or body (at + 1) 0 ∷ get_or body (at + 2) 0 ∷ get_or body (at + 3) 0 ∷ get_or body (at + 4) 0 ∷ get_or body (at + 5) 0
    ∷ get_or body (at + 6) 0 ∷ get_or body (at + 7) 0 ∷ []) ≡ n
number_of_eight front rest n at body fits long is =
    let there : (i : ℕ) → get_or body (at + i) 0 ≡ get_or (to_be_bytes w64 n ++ rest) i 0 = λ i.
    ap (λ (l : List ℕ). get_or l (at + i) 0) is ∙ ap (λ (k : ℕ). get_or (front ++ (to_be_bytes w64 n ++ rest)) (k + i) 0) (sym long)
    ∙ get_or-append-add front (to_be_bytes w64 n ++ rest) i 0 in
    let here : at ≡ at + 0 = omega arith in
    let first : get_or body at 0 ≡ get_or (to_be_bytes w64 n ++ rest) 0 0 = ap (λ (k : ℕ). get_or body k 0) here ∙ there 0 in
    let all : get_or body at 0 ∷ get_or body (at + 1) 0 ∷ get_or body (at + 2) 0 ∷ get_or body (at + 3) 0 ∷ get_or body (at + 4) 0 ∷ get_or body (at + 5) 0
    ∷ get_or body (at + 6) 0 ∷ get_or body (at + 7) 0 ∷ [] ≡ to_be_bytes w64 n =
    (λ i. first i ∷ there 1 i ∷ there 2 i ∷ there 3 i ∷ there 4 i ∷ there 5 i ∷ there 6 i ∷ there 7 i ∷ []) in
    ap (λ (l : List ℕ). from_be_bytes w64 l) all ∙ from_be_bytes-to_be_bytes_8 n fits

pub length-zeros : (n : ℕ) → length (zeros n) ≡ n
unfolding zeros
length-zeros n = length-replicate n 0

drop-zeros : (m n : ℕ) → drop m (zeros n) ≡ zeros (n - m)
unfolding zeros
drop-zeros m n = drop-replicate m n 0

pub all_zero : replicate 2047 0 ≡ [] ++ zeros 2047
unfolding zeros
all_zero = refl

-- what was put, by another name
pub put_as : (front bytes wanted body : List ℕ) (at : ℕ) → bytes ≡ wanted → body ≡ (front ++ bytes) ++ zeros (2047 - (at + length bytes))
    → body ≡ (front ++ wanted) ++ zeros (2047 - (at + length wanted))
put_as front bytes wanted body at same is = is ∙ ap (λ (l : List ℕ). (front ++ l) ++ zeros (2047 - (at + length l))) same

-- bytes that are put behind the front of a body that is zero behind it
pub put_behind : (front bytes old new : List ℕ) (at k : ℕ) → length front ≡ at → old ≡ front ++ zeros (2047 - at) → at + length bytes ≤ 2047 → new ≡ bytes → k ≡ length bytes
    → put_mid at k old new ≡ (front ++ bytes) ++ zeros (2047 - (at + length bytes))
put_behind front bytes old new at k long is fits same count =
    let n : ℕ = at + length bytes in
    let old_length : length old ≡ at + (2047 - at) = ap (λ (l : List ℕ). length l) is ∙ length-append front (zeros (2047 - at)) ∙ (λ i. long i + length-zeros (2047 - at) i) in
    let new_length : length new ≡ length bytes = ap (λ (l : List ℕ). length l) same in
    let begins : take at old ≡ front = ap (λ (l : List ℕ). take at l) is ∙ ap (λ (m : ℕ). take m (front ++ zeros (2047 - at))) (sym long) ∙ take-append_seam front (zeros (2047 - at)) in
    let left : 2047 - at - length bytes ≡ 2047 - (at + length bytes) = omega arith in
    let ends : drop (at + length bytes) old ≡ zeros (2047 - (at + length bytes)) =
    ap (λ (l : List ℕ). drop (at + length bytes) l) is ∙ ap (λ (m : ℕ). drop (m + length bytes) (front ++ zeros (2047 - at))) (sym long)
    ∙ drop-append-add front (zeros (2047 - at)) (length bytes) ∙ drop-zeros (length bytes) (2047 - at) ∙ ap (λ (m : ℕ). zeros m) left in
    sym (take-append-drop (at + length bytes) (put_mid at k old new))
    ∙ (λ i. take-put_mid at k old new (at + length bytes) (omega (arith, new_length)) (omega (arith, old_length)) i
    ++ drop-put_mid at k old new (at + length bytes) (omega (arith, count)) (omega (arith, old_length)) (new_length ∙ sym count) i)
    ∙ (λ i. (begins i ++ same i) ++ ends i)
