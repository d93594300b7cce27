-- One slot of a page: where it stands and what is read there.
use Rattle.std.proofs.Common.{◌≡◌, ℕ, suc, ◌+◌, ◌-◌, ◌*◌, ◌<◌, ◌≤◌, cond, eqb, List, length, get_or, take, drop, Option, Some, None, sym, ap, subst, ◌∙◌, arith, inl, inr}
use Rattle.std.proofs.Math.Nat.{mul-le-mul_right}
use Rattle.std.proofs.lemmas.Bool.{cond-true, cond-false, eq-eqb, ne_eqb}
use Rattle.std.proofs.lemmas.List.{drop-drop, drop_more}
use Rattle.ids_base.specs.RowIds.{slot_count}
use Rattle.slot_page.specs.Pages.{Paged, IsOwned, IsPage, HasSlot, row_at}
use Rattle.slot_page.specs.Reading.{owner_of, length_of, slot_of, read_page, IsPageBytes}
use Rattle.slot_page.proofs.SlotBytes.{get_or-slots_of}
use Rattle.slot_page.proofs.WholePages.{slots_fit, table_not_zero, rows_of-owned}

-- a page with a slot has an owner
pub IsOwned-slot : (p : Paged) (slot : ℕ) → IsPage p → HasSlot p slot → IsOwned p
IsOwned-slot p slot (inl u) h = absurd (omega (arith, h.from_one, h.there, ap (λ (rows : List (Option (List ℕ))). length rows) u.rows))
IsOwned-slot p slot (inr o) h = o

-- a slot's number is at most how many slots are counted
counted : (p : Paged) (slot : ℕ) → IsPage p → HasSlot p slot → slot ≤ slot_count p.length
counted p slot page h =
    let o = IsOwned-slot p slot page h in
    omega (arith, h.there, o.slots)

-- bytes of a page as it is seen, and the length of its rows
pub record Holds (bytes : List ℕ) (p : Paged) (n : ℕ) : Type 0 where
  pub long : length bytes ≡ 2048
  pub page : IsPageBytes bytes
  pub seen : read_page bytes ≡ p
  pub sized : n ≡ length_of bytes

slot_read : (bytes : List ℕ) (p : Paged) (n slot : ℕ) → Holds bytes p n → HasSlot p slot → HasSlot (read_page bytes) slot
slot_read bytes p n slot h there = subst (λ (q : Paged). HasSlot q slot) (sym h.seen) there

pub slot_counted : (bytes : List ℕ) (p : Paged) (n slot : ℕ) → Holds bytes p n → HasSlot p slot → slot ≤ slot_count n
slot_counted bytes p n slot h there =
    subst (λ (m : ℕ). slot ≤ slot_count m) (sym h.sized) (counted (read_page bytes) slot h.page.page (slot_read bytes p n slot h there))

pub place_fits : (slot n : ℕ) → 1 ≤ slot → slot ≤ slot_count n → (slot - 1) * (n + 1) + (n + 1) ≤ 2008
place_fits slot n from_one counted =
    let below : suc (slot - 1) ≤ slot_count n = omega arith in
    omega (arith, slots_fit n, mul-le-mul_right (n + 1) below)

-- what is read in a slot
row_at-read : (bytes : List ℕ) (p : Paged) (n slot : ℕ) → Holds bytes p n → HasSlot p slot → row_at p slot ≡ slot_of n (drop (8 + (slot - 1) * (n + 1)) bytes)
row_at-read bytes p n slot h there =
    let m = length_of bytes in
    let here = slot_read bytes p n slot h there in
    let o = IsOwned-slot (read_page bytes) slot h.page.page here in
    let rows = rows_of-owned bytes (table_not_zero (owner_of bytes) o.table) in
    let below : slot - 1 < slot_count m = omega (arith, here.from_one, here.there, o.slots) in
    ap (λ (q : Paged). row_at q slot) (sym h.seen)
    ∙ (ap (λ (rs : List (Option (List ℕ))). get_or rs (slot - 1) None) rows
    ∙ (get_or-slots_of m (slot_count m) (slot - 1) (drop 8 bytes) below
    ∙ (ap (slot_of m) (drop-drop ((slot - 1) * (m + 1)) 8 bytes)
    ∙ ap (λ (k : ℕ). slot_of k (drop (8 + (slot - 1) * (k + 1)) bytes)) (sym h.sized))))

-- the same by the slot's first byte
row_at-place : (bytes : List ℕ) (p : Paged) (n slot at : ℕ) → Holds bytes p n → HasSlot p slot → at ≡ 8 + (slot - 1) * (n + 1)
    → row_at p slot ≡ cond (eqb (get_or bytes at 0) 0) None (Some (take n (drop (at + 1) bytes)))
row_at-place bytes p n slot at h there e =
    let fits = place_fits slot n there.from_one (slot_counted bytes p n slot h there) in
    row_at-read bytes p n slot h there
    ∙ (ap (λ (i : ℕ). slot_of n (drop i bytes)) (sym e) ∙ ap (slot_of n) (drop_more bytes at 0 (omega (arith, fits, h.long))))

pub row_at-empty : (bytes : List ℕ) (p : Paged) (n slot at : ℕ) → Holds bytes p n → HasSlot p slot → at ≡ 8 + (slot - 1) * (n + 1) → get_or bytes at 0 ≡ 0 → row_at p slot ≡ None
row_at-empty bytes p n slot at h there e none = row_at-place bytes p n slot at h there e ∙ cond-true _ _ _ (eq-eqb (get_or bytes at 0) 0 none)

pub row_at-full : (bytes : List ℕ) (p : Paged) (n slot at : ℕ) → Holds bytes p n → HasSlot p slot → at ≡ 8 + (slot - 1) * (n + 1) → (get_or bytes at 0 ≡ 0 → ⊥)
    → row_at p slot ≡ Some (take n (drop (at + 1) bytes))
row_at-full bytes p n slot at h there e some = row_at-place bytes p n slot at h there e ∙ cond-false _ _ _ (ne_eqb (get_or bytes at 0) 0 some)
