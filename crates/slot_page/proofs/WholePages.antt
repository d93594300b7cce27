-- Whole pages: what is spelled is read, and only that.
use Rattle.std.proofs.Common.{◌≡◌, ℕ, zero, ◌+◌, ◌-◌, ◌*◌, ◌/◌, ◌<◌, ◌≤◌, min, true, eqb, leb, ◌&&◌, ◌||◌, List, [], ◌++◌, length, drop, replicate, Option, sym, ap, subst, ◌∙◌, arith, inl, inr}
use Rattle.std.specs.Prelude.{◌⊎◌}
use Rattle.std.proofs.Math.Nat.{div-mul-le_self, mul-le-mul_right}
use Rattle.std.proofs.lemmas.Bool.{and_parts, and_from, or_cases, or_left, or_right, eqb-true, eq-eqb, ne_eqb, leb-true, le-leb, cond-true, cond-false}
use Rattle.std.proofs.lemmas.List.{length-append, length-replicate, length-drop}
use Rattle.std.proofs.lemmas.List.Elements.{All-drop}
use Rattle.ids_base.specs.RowIds.{slot_count}
use Rattle.slot_page.specs.Pages.{Paged, head_bytes, slots_bytes, page_bytes, AreBytes, IsTable, IsRowLength, AreRows, IsOwned, IsPage}
use Rattle.slot_page.specs.Reading.{owner_of, length_of, rows_of, slots_of, read_page, is_head}
use Rattle.slot_page.proofs.SlotBytes.{slots_of-slots_bytes, AreRows-slots_of, length-slots_of}
use Rattle.slot_page.proofs.HeadBytes.{behind_head, owner_of-page_bytes, length_of-page_bytes, drop-page_bytes, owner_of-small}

-- as many slots as are counted fit
pub slots_fit : (n : ℕ) → slot_count n * (n + 1) ≤ 2008
slots_fit n = omega (arith, div-mul-le_self 2008 (n + 1), mul-le-mul_right (n + 1) (let few : min (2008 / (n + 1)) 255 ≤ 2008 / (n + 1) = omega arith in few))

-- pages are at least 2048 bytes long
pub page_bytes-long : (p : Paged) → 2048 ≤ length (page_bytes p)
unfolding page_bytes
page_bytes-long p =
    let used = head_bytes p ++ slots_bytes p.length p.rows in
    omega (arith, length-append used (replicate (2048 - length used) 0), length-replicate (2048 - length used) zero)

pub same_page : (o₁ o₂ l₁ l₂ : ℕ) (r₁ r₂ : List (Option (List ℕ))) → o₁ ≡ o₂ → l₁ ≡ l₂ → r₁ ≡ r₂
    → (let a : Paged = record { owner = o₁; length = l₁; rows = r₁ } in a) ≡ record { owner = o₂; length = l₂; rows = r₂ }
same_page o₁ o₂ l₁ l₂ r₁ r₂ e f g =
    ap (λ (o : ℕ). let a : Paged = record { owner = o; length = l₁; rows = r₁ } in a) e
    ∙ (ap (λ (l : ℕ). let a : Paged = record { owner = o₂; length = l; rows = r₁ } in a) f
    ∙ ap (λ (r : List (Option (List ℕ))). let a : Paged = record { owner = o₂; length = l₂; rows = r } in a) g)

-- a table's number is not 0
pub table_not_zero : (n : ℕ) → IsTable n → n ≡ 0 → ⊥
table_not_zero n (inl e) z = omega arith
table_not_zero n (inr le) z = omega arith

behind : (p : Paged) → AreRows p.length p.rows → slots_of p.length (length p.rows) (behind_head p) ≡ p.rows
unfolding behind_head
behind p h = slots_of-slots_bytes p.length p.rows _ h

-- what is spelled is read
pub read_page-page_bytes : (p : Paged) → IsPage p → read_page (page_bytes p) ≡ p
unfolding rows_of
read_page-page_bytes p (inl h) =
    let owner = owner_of-page_bytes p (omega (arith, h.owner)) in
    let size = length_of-page_bytes p (omega (arith, h.length)) in
    let rows : rows_of (page_bytes p) ≡ p.rows = cond-true (eqb (owner_of (page_bytes p)) 0) _ _ (eq-eqb _ _ (owner ∙ h.owner)) ∙ sym h.rows in
    same_page _ _ _ _ _ _ owner size rows
read_page-page_bytes p (inr h) =
    let owner = owner_of-page_bytes p h.small in
    let size = length_of-page_bytes p (omega (arith, h.sized.few)) in
    let count : slot_count (length_of (page_bytes p)) ≡ length p.rows = ap slot_count size ∙ sym h.slots in
    let other = ne_eqb (owner_of (page_bytes p)) 0 (λ z. table_not_zero p.owner h.table (sym owner ∙ z)) in
    let rows : rows_of (page_bytes p) ≡ p.rows =
    cond-false (eqb (owner_of (page_bytes p)) 0) _ _ other
    ∙ (ap (λ (l : ℕ). slots_of l (slot_count (length_of (page_bytes p))) (drop 8 (page_bytes p))) size
    ∙ (ap (λ (k : ℕ). slots_of p.length k (drop 8 (page_bytes p))) count
    ∙ (ap (slots_of p.length (length p.rows)) (drop-page_bytes p) ∙ behind p h.rows))) in
    same_page _ _ _ _ _ _ owner size rows

-- a page has a head
pub is_head-page : (p : Paged) → IsPage p → is_head p ≡ true
is_head-page p (inl h) = or_left _ _ (and_from _ _ (eq-eqb p.owner 0 h.owner) (eq-eqb p.length 0 h.length))
is_head-page p (inr h) = or_right _ _ (and_from _ _ (table p.owner h.table) (and_from _ _ (le-leb 1 p.length h.sized.some) (le-leb p.length 800 h.sized.few)))
  where
    table : (n : ℕ) → IsTable n → (eqb n 1 || leb 100 n) ≡ true
    table n (inl e) = or_left _ _ (eq-eqb n 1 e)
    table n (inr le) = or_right _ _ (le-leb 100 n le)

-- what a head says
pub head_says : (p : Paged) → is_head p ≡ true → ((p.owner ≡ 0) × (p.length ≡ 0)) ⊎ (IsTable p.owner × IsRowLength p.length)
head_says p e =
    elim (or_cases (eqb p.owner 0 && eqb p.length 0) _ e) [
      | inl none ↦
          let both = and_parts (eqb p.owner 0) (eqb p.length 0) none in
          inl (eqb-true p.owner 0 both.0, eqb-true p.length 0 both.1)
      | inr some ↦
          let both = and_parts (eqb p.owner 1 || leb 100 p.owner) (leb 1 p.length && leb p.length 800) some in
          let size = and_parts (leb 1 p.length) (leb p.length 800) both.1 in
          inr (table p.owner both.0, record { some = leb-true 1 p.length size.0; few = leb-true p.length 800 size.1 })
    ]
  where
    table : (n : ℕ) → (eqb n 1 || leb 100 n) ≡ true → IsTable n
    table n t = elim (or_cases (eqb n 1) (leb 100 n) t) [ inl one ↦ inl (eqb-true n 1 one) | inr more ↦ inr (leb-true 100 n more) ]

-- the rows that are read from a page of a table
pub rows_of-owned : (bytes : List ℕ) → (owner_of bytes ≡ 0 → ⊥) → rows_of bytes ≡ slots_of (length_of bytes) (slot_count (length_of bytes)) (drop 8 bytes)
unfolding rows_of
rows_of-owned bytes other = cond-false (eqb (owner_of bytes) 0) _ _ (ne_eqb (owner_of bytes) 0 other)

pub rows_of-unowned : (bytes : List ℕ) → owner_of bytes ≡ 0 → rows_of bytes ≡ []
unfolding rows_of
rows_of-unowned bytes none = cond-true (eqb (owner_of bytes) 0) _ _ (eq-eqb (owner_of bytes) 0 none)

-- what is read from a page of a table
pub IsOwned-read : (bytes : List ℕ) → 2048 ≤ length bytes → AreBytes bytes → IsTable (owner_of bytes) → IsRowLength (length_of bytes) → IsOwned (read_page bytes)
IsOwned-read bytes long h table size =
    let n = length_of bytes in
    let rows = rows_of-owned bytes (table_not_zero (owner_of bytes) table) in
    let behind = AreRows-slots_of n (slot_count n) (drop 8 bytes) (omega (arith, length-drop 8 bytes, slots_fit n)) (All-drop (λ b. b < 256) 8 bytes h) in
    record {
      table = table;
      small = owner_of-small bytes h;
      sized = size;
      slots = ap (λ (rs : List (Option (List ℕ))). length rs) rows ∙ length-slots_of n (slot_count n) (drop 8 bytes);
      rows = subst (AreRows n) (sym rows) behind;
    }

pub IsPage-read : (bytes : List ℕ) → 2048 ≤ length bytes → AreBytes bytes → is_head (read_page bytes) ≡ true → IsPage (read_page bytes)
IsPage-read bytes long h e =
    elim (head_says (read_page bytes) e) [
      | inl none ↦ inl (record { owner = none.0; length = none.1; rows = rows_of-unowned bytes none.0 })
      | inr some ↦ inr (IsOwned-read bytes long h some.0 some.1)
    ]
