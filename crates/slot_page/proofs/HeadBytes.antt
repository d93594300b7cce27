-- The head of a page: what is written is read.
use Rattle.std.proofs.Common.{◌≡◌, ℕ, ◌-◌, ◌^◌, ◌<◌, ◌≤◌, List, [], ◌∷◌, ◌++◌, length, get_or, take, drop, replicate, refl, sym, ap, ◌∙◌, append_assoc, arith, inl, inr}
use Rattle.std.specs.Int.{w16, w32, to_be_bytes, from_be_bytes}
use Rattle.std.proofs.lemmas.Bool.{cases_lt}
use Rattle.std.proofs.lemmas.List.{length-append, length-take-le, length-drop, get_or_past}
use Rattle.std.proofs.lemmas.List.Elements.{All-take, All-drop, All-from_get_or}
use Rattle.std.proofs.lemmas.Nat.{be_bytes_2, be_bytes_4, from_be_bytes-to_be_bytes_2, from_be_bytes-to_be_bytes_4}
use Rattle.slot_page.specs.Pages.{Paged, head_bytes, slots_bytes, page_bytes, AreBytes}
use Rattle.slot_page.specs.Reading.{owner_of, length_of}

-- a byte at any place
pub byte_at : (bytes : List ℕ) (i : ℕ) → AreBytes bytes → get_or bytes i 0 < 256
byte_at bytes i h =
    elim (cases_lt i (length bytes)) [
      | inl lt ↦ h i 0 lt
      | inr le ↦ rw (get_or_past bytes i 0 le) (omega arith)
    ]

pub AreBytes-from_fits : (bytes : List ℕ) → ((i : ℕ) → get_or bytes i 0 < 256) → AreBytes bytes
AreBytes-from_fits bytes h = All-from_get_or (λ b. b < 256) bytes 0 (λ i lt. h i)

-- what stands behind the head
unfoldable pub behind_head : Paged → List ℕ
behind_head p = slots_bytes p.length p.rows ++ replicate (2040 - length (slots_bytes p.length p.rows)) 0

pub page_bytes-parts : (p : Paged) → page_bytes p ≡ head_bytes p ++ behind_head p
unfolding page_bytes behind_head
page_bytes-parts p =
    let slots = slots_bytes p.length p.rows in
    let left : 2048 - length (head_bytes p ++ slots) ≡ 2040 - length slots = omega (arith, length-append (head_bytes p) slots) in
    ap (λ (m : ℕ). (head_bytes p ++ slots) ++ replicate m 0) left ∙ append_assoc (head_bytes p) slots (replicate (2040 - length slots) 0)

pub owner_of-page_bytes : (p : Paged) → p.owner < 2 ^ 32 → owner_of (page_bytes p) ≡ p.owner
unfolding owner_of
owner_of-page_bytes p lt = ap (λ (bytes : List ℕ). from_be_bytes w32 (take 4 bytes)) (page_bytes-parts p) ∙ from_be_bytes-to_be_bytes_4 p.owner lt

pub length_of-page_bytes : (p : Paged) → p.length < 2 ^ 16 → length_of (page_bytes p) ≡ p.length
unfolding length_of
length_of-page_bytes p lt = ap (λ (bytes : List ℕ). from_be_bytes w16 (take 2 (drop 4 bytes))) (page_bytes-parts p) ∙ from_be_bytes-to_be_bytes_2 p.length lt

pub drop-page_bytes : (p : Paged) → drop 8 (page_bytes p) ≡ behind_head p
drop-page_bytes p = ap (λ (bytes : List ℕ). drop 8 bytes) (page_bytes-parts p)

pub count_of-page_bytes : (p : Paged) → get_or (page_bytes p) 6 0 ≡ length p.rows
count_of-page_bytes p = ap (λ (bytes : List ℕ). get_or bytes 6 0) (page_bytes-parts p)

pub zero_of-page_bytes : (p : Paged) → get_or (page_bytes p) 7 0 ≡ 0
zero_of-page_bytes p = ap (λ (bytes : List ℕ). get_or bytes 7 0) (page_bytes-parts p)

pub owner_of-small : (bytes : List ℕ) → AreBytes bytes → owner_of bytes < 2 ^ 32
unfolding owner_of
owner_of-small bytes h =
    let fits = λ (i : ℕ). byte_at (take 4 bytes) i (All-take (λ b. b < 256) 4 bytes h) in
    omega (arith, fits 0, fits 1, fits 2, fits 3)

-- the first eight bytes, one by one
eight : (bytes : List ℕ) → 8 ≤ length bytes → bytes ≡ ((take 4 bytes ++ take 2 (drop 4 bytes)) ++ get_or bytes 6 0 ∷ get_or bytes 7 0 ∷ []) ++ drop 8 bytes
eight (a ∷ b ∷ c ∷ d ∷ e ∷ f ∷ g ∷ h ∷ rest) le = refl
eight bytes le = absurd (omega arith)

-- bytes are the head that they say, and what stands behind it
pub head_and_behind : (bytes : List ℕ) → 8 ≤ length bytes → AreBytes bytes
    → bytes ≡ ((to_be_bytes w32 (owner_of bytes) ++ to_be_bytes w16 (length_of bytes)) ++ get_or bytes 6 0 ∷ get_or bytes 7 0 ∷ []) ++ drop 8 bytes
unfolding owner_of length_of
head_and_behind bytes le h =
    let four : List ℕ = take 4 bytes in
    let two : List ℕ = take 2 (drop 4 bytes) in
    let owner : to_be_bytes w32 (from_be_bytes w32 four) ≡ four =
    be_bytes_4 four _ (length-take-le 4 bytes (omega arith)) (λ i. byte_at four i (All-take (λ b. b < 256) 4 bytes h)) refl in
    let size : to_be_bytes w16 (from_be_bytes w16 two) ≡ two =
    be_bytes_2 two _ (length-take-le 2 (drop 4 bytes) (omega (arith, length-drop 4 bytes)))
    (λ i. byte_at two i (All-take (λ b. b < 256) 2 (drop 4 bytes) (All-drop (λ b. b < 256) 4 bytes h))) refl in
    eight bytes le
    ∙ (ap (λ (xs : List ℕ). ((xs ++ two) ++ get_or bytes 6 0 ∷ get_or bytes 7 0 ∷ []) ++ drop 8 bytes) (sym owner)
    ∙ ap (λ (xs : List ℕ). ((to_be_bytes w32 (from_be_bytes w32 four) ++ xs) ++ get_or bytes 6 0 ∷ get_or bytes 7 0 ∷ []) ++ drop 8 bytes) (sym size))

-- the owner and the length of rows from their single bytes
pub owner_of-bytes : (bytes : List ℕ) → 8 ≤ length bytes → from_be_bytes w32 (get_or bytes 0 0 ∷ get_or bytes 1 0 ∷ get_or bytes 2 0 ∷ get_or bytes 3 0 ∷ []) ≡ owner_of bytes
unfolding owner_of
owner_of-bytes (a ∷ b ∷ c ∷ d ∷ rest) le = refl
owner_of-bytes bytes le = absurd (omega arith)

pub length_of-bytes : (bytes : List ℕ) → 8 ≤ length bytes → from_be_bytes w16 (get_or bytes 4 0 ∷ get_or bytes 5 0 ∷ []) ≡ length_of bytes
unfolding length_of
length_of-bytes (a ∷ b ∷ c ∷ d ∷ e ∷ f ∷ rest) le = refl
length_of-bytes bytes le = absurd (omega arith)
