-- Slots and their bytes: what is written is read.
use Rattle.std.proofs.Common.{◌≡◌, ℕ, zero, suc, ◌+◌, ◌*◌, ◌<◌, ◌≤◌, Bool, true, false, cond, eqb, List, [], ◌∷◌, ◌++◌, length, get_or, take, drop, Option, Some, None, refl, sym, ap, ◌∙◌, append_assoc, arith}
use Rattle.std.specs.Prelude.{IfSome}
use Rattle.std.proofs.lemmas.List.{take_at, drop_at, length-append, length-replicate, length-take-le, length-drop, drop-drop}
use Rattle.std.proofs.lemmas.List.Elements.{All-nil, All-cons, All-head, All-tail, All-take, All-drop}
use Rattle.slot_page.specs.Pages.{slot_bytes, slots_bytes, AreBytes, IsRow, AreRows}
use Rattle.slot_page.specs.Reading.{slot_of, slots_of}

-- a slot that is empty or has a row of n bytes
abbrev pub IsSlot : ℕ → Option (List ℕ) → Type 0
IsSlot n row = IfSome row (λ r. length r ≡ n)

-- a slot has one byte more than its row
pub length-slot_bytes : (n : ℕ) (row : Option (List ℕ)) → IsSlot n row → length (slot_bytes n row) ≡ n + 1
length-slot_bytes n None h = omega (arith, length-replicate n zero)
length-slot_bytes n (Some row) h = omega (arith, h)

-- a row has its length
pub IsRow-slot : (n : ℕ) (row : Option (List ℕ)) → IfSome row (IsRow n) → IsSlot n row
IsRow-slot n None h = tt
IsRow-slot n (Some row) h = h.sized

-- all slots together
pub length-slots_bytes : (n : ℕ) (rows : List (Option (List ℕ))) → AreRows n rows → length (slots_bytes n rows) ≡ length rows * (n + 1)
length-slots_bytes n [] h = omega arith
length-slots_bytes n (row ∷ rows) h =
    let P : Option (List ℕ) → Type 0 = λ r. IfSome r (IsRow n) in
    let one = length-slot_bytes n row (IsRow-slot n row (All-head P row rows h)) in
    let more = length-slots_bytes n rows (All-tail P row rows h) in
    omega (arith, length-append (slot_bytes n row) (slots_bytes n rows), one, more)

-- a slot is read as it was written
pub slot_of-slot_bytes : (n : ℕ) (row : Option (List ℕ)) (rest : List ℕ) → IsSlot n row → slot_of n (slot_bytes n row ++ rest) ≡ row
slot_of-slot_bytes n None rest h = refl
slot_of-slot_bytes n (Some row) rest h = ap (λ (r : List ℕ). Some r) (take_at row rest n h)

-- so are slots
pub slots_of-slots_bytes : (n : ℕ) (rows : List (Option (List ℕ))) (rest : List ℕ) → AreRows n rows → slots_of n (length rows) (slots_bytes n rows ++ rest) ≡ rows
slots_of-slots_bytes n [] rest h = refl
slots_of-slots_bytes n (row ∷ rows) rest h =
    let P : Option (List ℕ) → Type 0 = λ r. IfSome r (IsRow n) in
    let slot = IsRow-slot n row (All-head P row rows h) in
    let whole = append_assoc (slot_bytes n row) (slots_bytes n rows) rest in
    let first = slot_of-slot_bytes n row (slots_bytes n rows ++ rest) slot in
    let behind = drop_at (slot_bytes n row) (slots_bytes n rows ++ rest) (n + 1) (length-slot_bytes n row slot) in
    let more = slots_of-slots_bytes n rows rest (All-tail P row rows h) in
    ap (slots_of n (suc (length rows))) whole
    ∙ (ap (λ (r : Option (List ℕ)). r ∷ slots_of n (length rows) (drop (n + 1) (slot_bytes n row ++ (slots_bytes n rows ++ rest)))) first
    ∙ (ap (λ (bytes : List ℕ). row ∷ slots_of n (length rows) bytes) behind ∙ ap (λ (rs : List (Option (List ℕ))). row ∷ rs) more))

row_behind : (b : Bool) (n : ℕ) (row : List ℕ) → IsRow n row → IfSome (cond b None (Some row)) (IsRow n)
row_behind true n row h = tt
row_behind false n row h = h

-- what is read from a slot is a row
pub IsRow-slot_of : (n : ℕ) (bytes : List ℕ) → n + 1 ≤ length bytes → AreBytes bytes → IfSome (slot_of n bytes) (IsRow n)
IsRow-slot_of n [] le h = tt
IsRow-slot_of n (tag ∷ row) le h =
    row_behind (eqb tag 0) n (take n row) (record { sized = length-take-le n row (omega arith); bytes = All-take (λ b. b < 256) n row (All-tail (λ b. b < 256) tag row h) })

pub AreRows-slots_of : (n k : ℕ) (bytes : List ℕ) → k * (n + 1) ≤ length bytes → AreBytes bytes → AreRows n (slots_of n k bytes)
AreRows-slots_of n zero bytes le h = All-nil (λ r. IfSome r (IsRow n))
AreRows-slots_of n (suc k) bytes le h =
    All-cons (λ r. IfSome r (IsRow n)) (slot_of n bytes) (slots_of n k (drop (n + 1) bytes)) (IsRow-slot_of n bytes (omega arith) h)
    (AreRows-slots_of n k (drop (n + 1) bytes) (omega (arith, length-drop (n + 1) bytes)) (All-drop (λ b. b < 256) (n + 1) bytes h))

pub length-slots_of : (n k : ℕ) (bytes : List ℕ) → length (slots_of n k bytes) ≡ k
length-slots_of n zero bytes = refl
length-slots_of n (suc k) bytes = ap suc (length-slots_of n k (drop (n + 1) bytes))

-- the slot of a number stands behind those before it
pub get_or-slots_of : (n k i : ℕ) (bytes : List ℕ) → i < k → get_or (slots_of n k bytes) i None ≡ slot_of n (drop (i * (n + 1)) bytes)
get_or-slots_of n zero i bytes lt = absurd (omega arith)
get_or-slots_of n (suc k) zero bytes lt =
    let none : 0 * (n + 1) ≡ 0 = omega arith in
    sym (ap (λ (at : ℕ). slot_of n (drop at bytes)) none)
get_or-slots_of n (suc k) (suc i) bytes lt =
    let at : (n + 1) + i * (n + 1) ≡ suc i * (n + 1) = omega arith in
    get_or-slots_of n k i (drop (n + 1) bytes) (omega arith)
    ∙ ap (slot_of n) (drop-drop (i * (n + 1)) (n + 1) bytes ∙ ap (λ (m : ℕ). drop m bytes) at)
