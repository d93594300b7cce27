-- Which bytes are accepted as a page.
use Rattle.std.proofs.Common.{◌≡◌, ℕ, ◌+◌, ◌-◌, ◌*◌, true, List, [], ◌∷◌, ◌++◌, length, get_or, drop, replicate, Option, refl, sym, ap, ◌∙◌, arith, inl, inr}
use Rattle.std.specs.Int.{w16, w32, to_be_bytes}
use Rattle.std.proofs.lemmas.List.{length-drop, replicate-append-replicate}
use Rattle.ids_base.specs.RowIds.{slot_count}
use Rattle.slot_page.specs.Pages.{Paged, head_bytes, slots_bytes, page_bytes, AreBytes, AreRows, IsTable, IsRowLength, IsOwned, unowned}
use Rattle.slot_page.specs.Reading.{owner_of, length_of, rows_of, read_page, IsPageBytes}
use Rattle.slot_page.specs.Checks.{are_zero, are_slots}
use Rattle.slot_page.proofs.SlotBytes.{length-slots_bytes}
use Rattle.slot_page.proofs.SlotTests.{zeros_from_test, are_zero-replicate, slots_from_test, are_slots-slots_bytes}
use Rattle.slot_page.proofs.HeadBytes.{behind_head, page_bytes-parts, drop-page_bytes, count_of-page_bytes, zero_of-page_bytes, head_and_behind}
use Rattle.slot_page.proofs.WholePages.{slots_fit, same_page, table_not_zero, rows_of-owned, IsOwned-read}
use Rattle.slot_page.proofs.Spelled.{Spells}

-- the page that no table owns is all zero
pub page_bytes-unowned : page_bytes unowned ≡ replicate 2048 0
unfolding page_bytes
page_bytes-unowned = replicate-append-replicate 8 2040 0

pub zeros_spell : (bytes : List ℕ) → length bytes ≡ 2048 → are_zero bytes ≡ true → Spells bytes unowned
zeros_spell bytes long e = record {
  page = inl (record { owner = refl; length = refl; rows = refl });
  spelled = zeros_from_test bytes e ∙ (ap (λ (n : ℕ). replicate n 0) long ∙ sym page_bytes-unowned);
}

pub zero_where_unowned : (bytes : List ℕ) → owner_of bytes ≡ 0 → IsPageBytes bytes → are_zero bytes ≡ true
zero_where_unowned bytes none h =
    elim h.page [
      | inl u ↦
          let same : page_bytes (read_page bytes) ≡ page_bytes unowned = ap page_bytes (same_page _ _ _ _ _ _ u.owner u.length u.rows) in
          ap are_zero (h.spelled ∙ (same ∙ page_bytes-unowned)) ∙ are_zero-replicate 2048
      | inr o ↦ absurd (table_not_zero (owner_of bytes) o.table none)
    ]

-- a page with an owner
pub IsOwned-bytes : (bytes : List ℕ) → (owner_of bytes ≡ 0 → ⊥) → IsPageBytes bytes → IsOwned (read_page bytes)
IsOwned-bytes bytes some h = elim h.page [ inl u ↦ absurd (some u.owner) | inr o ↦ o ]

pub count_where_owned : (bytes : List ℕ) → (owner_of bytes ≡ 0 → ⊥) → IsPageBytes bytes → get_or bytes 6 0 ≡ slot_count (length_of bytes)
count_where_owned bytes some h =
    ap (λ (xs : List ℕ). get_or xs 6 0) h.spelled ∙ (count_of-page_bytes (read_page bytes) ∙ (IsOwned-bytes bytes some h).slots)

pub zero_behind_count : (bytes : List ℕ) → IsPageBytes bytes → get_or bytes 7 0 ≡ 0
zero_behind_count bytes h = ap (λ (xs : List ℕ). get_or xs 7 0) h.spelled ∙ zero_of-page_bytes (read_page bytes)

slots_behind : (p : Paged) → AreRows p.length p.rows → are_slots p.length (length p.rows) (behind_head p) ≡ true
unfolding behind_head
slots_behind p h = are_slots-slots_bytes p.length p.rows _ h

pub slots_where_owned : (bytes : List ℕ) → (owner_of bytes ≡ 0 → ⊥) → IsPageBytes bytes → are_slots (length_of bytes) (slot_count (length_of bytes)) (drop 8 bytes) ≡ true
slots_where_owned bytes some h =
    let o = IsOwned-bytes bytes some h in
    ap (λ (k : ℕ). are_slots (length_of bytes) k (drop 8 bytes)) (sym o.slots)
    ∙ (ap (λ (xs : List ℕ). are_slots (length_of bytes) (length (rows_of bytes)) (drop 8 xs)) h.spelled
    ∙ (ap (are_slots (length_of bytes) (length (rows_of bytes))) (drop-page_bytes (read_page bytes)) ∙ slots_behind (read_page bytes) o.rows))

-- what stands behind the head of bytes whose slots pass
behind_is : (p : Paged) (bytes : List ℕ) (n : ℕ) → AreRows p.length p.rows → length bytes ≡ 2040 → n ≡ length p.rows
    → bytes ≡ slots_bytes p.length p.rows ++ replicate (length bytes - n * (p.length + 1)) 0 → bytes ≡ behind_head p
unfolding behind_head
behind_is p bytes n rows long count e =
    let k = length-slots_bytes p.length p.rows rows in
    let left : length bytes - n * (p.length + 1) ≡ 2040 - length (slots_bytes p.length p.rows) = rw (count, k, long) refl in
    e ∙ ap (λ (m : ℕ). slots_bytes p.length p.rows ++ replicate m 0) left

pub accepted_owned : (bytes : List ℕ) → length bytes ≡ 2048 → AreBytes bytes → IsTable (owner_of bytes) → IsRowLength (length_of bytes)
    → get_or bytes 6 0 ≡ slot_count (length_of bytes) → get_or bytes 7 0 ≡ 0 → are_slots (length_of bytes) (slot_count (length_of bytes)) (drop 8 bytes) ≡ true → IsPageBytes bytes
accepted_owned bytes long h table size six seven passed =
    let n = length_of bytes in
    let k = slot_count n in
    let o = IsOwned-read bytes (omega arith) h table size in
    let rest : length (drop 8 bytes) ≡ 2040 = omega (arith, length-drop 8 bytes) in
    let rows = rows_of-owned bytes (table_not_zero (owner_of bytes) table) in
    let tested = slots_from_test n k (drop 8 bytes) (omega (arith, slots_fit n)) passed in
    let named = tested ∙ ap (λ (rs : List (Option (List ℕ))). slots_bytes n rs ++ replicate (length (drop 8 bytes) - k * (n + 1)) 0) (sym rows) in
    let behind = behind_is (read_page bytes) (drop 8 bytes) k o.rows rest (sym o.slots) named in
    let numbers = to_be_bytes w32 (owner_of bytes) ++ to_be_bytes w16 n in
    let spelled : bytes ≡ page_bytes (read_page bytes) =
    head_and_behind bytes (omega arith) h
    ∙ (ap (λ (x : ℕ). (numbers ++ x ∷ get_or bytes 7 0 ∷ []) ++ drop 8 bytes) (six ∙ sym o.slots)
    ∙ (ap (λ (x : ℕ). (numbers ++ length (rows_of bytes) ∷ x ∷ []) ++ drop 8 bytes) seven
    ∙ (ap (λ (xs : List ℕ). head_bytes (read_page bytes) ++ xs) behind ∙ sym (page_bytes-parts (read_page bytes))))) in
    record { page = inr o; spelled = spelled }
