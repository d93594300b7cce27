-- A page with every slot empty.
use Rattle.std.proofs.Common.{◌≡◌, ℕ, zero, suc, ◌+◌, ◌-◌, ◌*◌, ◌^◌, ◌<◌, ◌≤◌, true, List, [], ◌∷◌, ◌++◌, length, get_or, set, drop, replicate, None, refl, sym, ap, ◌∙◌, arith, inr}
use Rattle.std.specs.Prelude.{IfSome}
use Rattle.std.specs.Int.{w16, w32, to_be_bytes}
use Rattle.std.proofs.lemmas.List.{length-replicate, get_or-replicate, replicate-append-replicate, drop-replicate}
use Rattle.std.proofs.lemmas.List.Elements.{All-replicate}
use borrow.Rule.Slice.PartMut.{put_mid}
use Rattle.ids_base.specs.RowIds.{slot_count}
use Rattle.slot_page.specs.Pages.{head_bytes, slots_bytes, page_bytes, IsRow, IsTable, IsRowLength, IsPage, formatted}
use Rattle.slot_page.specs.Checks.{are_zero}
use Rattle.slot_page.proofs.SlotTests.{zeros_from_test}
use Rattle.slot_page.proofs.HeadBytes.{behind_head, page_bytes-parts}
use Rattle.slot_page.proofs.WholePages.{slots_fit}
use Rattle.slot_page.proofs.Spelled.{Spells}

IsPage-formatted : (table n : ℕ) → IsTable table → table < 2 ^ 32 → IsRowLength n → IsPage (formatted table n)
IsPage-formatted table n is small size =
    inr (record { table = is; small = small; sized = size; slots = length-replicate (slot_count n) None; rows = All-replicate (λ row. IfSome row (IsRow n)) (slot_count n) None tt })

-- empty slots are zeros
slots_bytes-empty : (n k : ℕ) → slots_bytes n (replicate k None) ≡ replicate (k * (n + 1)) 0
slots_bytes-empty n zero = ap (λ (m : ℕ). replicate m 0) (let e : 0 ≡ 0 * (n + 1) = omega arith in e)
slots_bytes-empty n (suc k) =
    let all : suc n + k * (n + 1) ≡ suc k * (n + 1) = omega arith in
    ap (λ (xs : List ℕ). (0 ∷ replicate n 0) ++ xs) (slots_bytes-empty n k)
    ∙ (replicate-append-replicate (suc n) (k * (n + 1)) 0 ∙ ap (λ (m : ℕ). replicate m 0) all)

behind_empty : (table n : ℕ) → behind_head (formatted table n) ≡ replicate 2040 0
unfolding behind_head
behind_empty table n =
    let k = slot_count n * (n + 1) in
    let slots = slots_bytes-empty n (slot_count n) in
    let size : length (slots_bytes n (replicate (slot_count n) None)) ≡ k = ap (λ (xs : List ℕ). length xs) slots ∙ length-replicate k zero in
    let all : k + (2040 - k) ≡ 2040 = omega (arith, slots_fit n) in
    ap (λ (m : ℕ). slots_bytes n (replicate (slot_count n) None) ++ replicate (2040 - m) 0) size
    ∙ (ap (λ (xs : List ℕ). xs ++ replicate (2040 - k) 0) slots
    ∙ (replicate-append-replicate k (2040 - k) 0 ∙ ap (λ (m : ℕ). replicate m 0) all))

-- the head written over eight bytes
head_put : (bytes : List ℕ) (table n count : ℕ) → 8 ≤ length bytes
    → set (put_mid 4 2 (to_be_bytes w32 table ++ drop 4 bytes) (to_be_bytes w16 n)) 6 count
    ≡ ((to_be_bytes w32 table ++ to_be_bytes w16 n) ++ count ∷ get_or bytes 7 0 ∷ []) ++ drop 8 bytes
head_put (a ∷ b ∷ c ∷ d ∷ e ∷ f ∷ g ∷ h ∷ rest) table n count long = refl
head_put bytes table n count long = absurd (omega arith)

-- a head over zeros
formatted_spelled : (bytes : List ℕ) (table n : ℕ) → length bytes ≡ 2048 → are_zero bytes ≡ true
    → set (put_mid 4 2 (to_be_bytes w32 table ++ drop 4 bytes) (to_be_bytes w16 n)) 6 (slot_count n) ≡ page_bytes (formatted table n)
formatted_spelled bytes table n long e =
    let count = slot_count n in
    let numbers = to_be_bytes w32 table ++ to_be_bytes w16 n in
    let zeros = zeros_from_test bytes e in
    let seven : get_or bytes 7 0 ≡ 0 = ap (λ (xs : List ℕ). get_or xs 7 0) zeros ∙ get_or-replicate (length bytes) 7 0 0 (omega arith) in
    let left : length bytes - 8 ≡ 2040 = omega arith in
    let rest : drop 8 bytes ≡ behind_head (formatted table n) =
    ap (λ (xs : List ℕ). drop 8 xs) zeros ∙ (drop-replicate 8 (length bytes) 0 ∙ (ap (λ (m : ℕ). replicate m 0) left ∙ sym (behind_empty table n))) in
    head_put bytes table n count (omega arith)
    ∙ (ap (λ (x : ℕ). (numbers ++ count ∷ x ∷ []) ++ drop 8 bytes) seven
    ∙ (ap (λ (m : ℕ). (numbers ++ m ∷ 0 ∷ []) ++ drop 8 bytes) (sym (length-replicate count None))
    ∙ (ap (λ (xs : List ℕ). head_bytes (formatted table n) ++ xs) rest ∙ sym (page_bytes-parts (formatted table n)))))

-- the owner, the rows' length and the count of slots written over zeros
pub head_spells : (bytes four two : List ℕ) (table n count : ℕ) → length bytes ≡ 2048 → are_zero bytes ≡ true → IsTable table → table < 2 ^ 32 → IsRowLength n
    → four ≡ to_be_bytes w32 table → two ≡ to_be_bytes w16 n → count ≡ slot_count n → Spells (set (put_mid 4 2 (four ++ drop 4 bytes) two) 6 count) (formatted table n)
head_spells bytes four two table n count long e is small size f g h = record {
  page = IsPage-formatted table n is small size;
  spelled =
      ap (λ (xs : List ℕ). set (put_mid 4 2 (xs ++ drop 4 bytes) two) 6 count) f
      ∙ (ap (λ (xs : List ℕ). set (put_mid 4 2 (to_be_bytes w32 table ++ drop 4 bytes) xs) 6 count) g
      ∙ (ap (λ (m : ℕ). set (put_mid 4 2 (to_be_bytes w32 table ++ drop 4 bytes) (to_be_bytes w16 n)) 6 m) h
      ∙ formatted_spelled bytes table n long e));
}
