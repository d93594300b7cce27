-- The tests of slots pass exactly what is written.
use Rattle.std.proofs.Common.{◌≡◌, ℕ, zero, suc, ◌+◌, ◌-◌, ◌*◌, ◌<◌, ◌≤◌, Bool, true, eqb, ◌&&◌, ◌||◌, List, [], ◌∷◌, ◌++◌, length, take, drop, replicate, Option, Some, None, refl, sym, ap, subst, ◌∙◌, append_assoc, add-one, arith, inl, inr}
use Rattle.std.specs.Prelude.{IfSome}
use Rattle.std.proofs.lemmas.Bool.{and_parts, and_from, or_cases, eqb-true}
use Rattle.std.proofs.lemmas.List.{take_at, drop_at, length-take-le, length-drop, take-append-drop}
use Rattle.std.proofs.lemmas.List.Elements.{All-head, All-tail}
use Rattle.slot_page.specs.Pages.{slot_bytes, slots_bytes, IsRow, AreRows}
use Rattle.slot_page.specs.Reading.{slot_of, slots_of}
use Rattle.slot_page.specs.Checks.{are_zero, is_slot, are_slots}
use Rattle.slot_page.proofs.SlotBytes.{IsRow-slot, length-slot_bytes}

pub zeros_from_test : (bytes : List ℕ) → are_zero bytes ≡ true → bytes ≡ replicate (length bytes) 0
zeros_from_test [] e = refl
zeros_from_test (b ∷ bytes) e =
    let both = and_parts (eqb b 0) (are_zero bytes) e in
    ap (λ (x : ℕ). x ∷ bytes) (eqb-true b 0 both.0) ∙ ap (λ (xs : List ℕ). 0 ∷ xs) (zeros_from_test bytes both.1)

pub are_zero-replicate : (n : ℕ) → are_zero (replicate n 0) ≡ true
are_zero-replicate zero = refl
are_zero-replicate (suc n) = are_zero-replicate n

-- the slot whose test passed
pub slot_from_test : (n : ℕ) (bytes : List ℕ) → n + 1 ≤ length bytes → is_slot (take (n + 1) bytes) ≡ true → take (n + 1) bytes ≡ slot_bytes n (slot_of n bytes)
slot_from_test n [] le e = absurd (omega arith)
slot_from_test n (tag ∷ row) le e =
    let front : take (n + 1) (tag ∷ row) ≡ tag ∷ take n row = ap (λ (m : ℕ). take m (tag ∷ row)) (add-one n) in
    let tested : (eqb tag 1 || are_zero (tag ∷ take n row)) ≡ true = subst (λ (xs : List ℕ). is_slot xs ≡ true) front e in
    elim (or_cases (eqb tag 1) (are_zero (tag ∷ take n row)) tested) [
      | inl one ↦
          let is : tag ≡ 1 = eqb-true tag 1 one in
          front ∙ subst (λ (t : ℕ). t ∷ take n row ≡ slot_bytes n (slot_of n (t ∷ row))) (sym is) refl
      | inr none ↦
          let both = and_parts (eqb tag 0) (are_zero (take n row)) none in
          let is : tag ≡ 0 = eqb-true tag 0 both.0 in
          let rest : take n row ≡ replicate n 0 = zeros_from_test (take n row) both.1 ∙ ap (λ (m : ℕ). replicate m 0) (length-take-le n row (omega arith)) in
          front ∙ subst (λ (t : ℕ). t ∷ take n row ≡ slot_bytes n (slot_of n (t ∷ row))) (sym is) (ap (λ (xs : List ℕ). 0 ∷ xs) rest)
    ]

-- the test of what is written
pub is_slot-slot_bytes : (n : ℕ) (row : Option (List ℕ)) → is_slot (slot_bytes n row) ≡ true
is_slot-slot_bytes n None = are_zero-replicate n
is_slot-slot_bytes n (Some row) = refl

pub slots_from_test : (n k : ℕ) (bytes : List ℕ) → k * (n + 1) ≤ length bytes → are_slots n k bytes ≡ true → bytes ≡ slots_bytes n (slots_of n k bytes) ++ replicate (length bytes - k * (n + 1)) 0
slots_from_test n zero bytes le e =
    let all : length bytes ≡ length bytes - 0 * (n + 1) = omega arith in
    zeros_from_test bytes e ∙ ap (λ (m : ℕ). replicate m 0) all
slots_from_test n (suc k) bytes le e =
    let both = and_parts (is_slot (take (n + 1) bytes)) (are_slots n k (drop (n + 1) bytes)) e in
    let one = slot_from_test n bytes (omega arith) both.0 in
    let more = slots_from_test n k (drop (n + 1) bytes) (omega (arith, length-drop (n + 1) bytes)) both.1 in
    let left : length (drop (n + 1) bytes) - k * (n + 1) ≡ length bytes - suc k * (n + 1) = omega (arith, length-drop (n + 1) bytes) in
    let others = slots_bytes n (slots_of n k (drop (n + 1) bytes)) in
    sym (take-append-drop (n + 1) bytes)
    ∙ (ap (λ (xs : List ℕ). xs ++ drop (n + 1) bytes) one
    ∙ (ap (λ (xs : List ℕ). slot_bytes n (slot_of n bytes) ++ xs) (more ∙ ap (λ (m : ℕ). others ++ replicate m 0) left)
    ∙ sym (append_assoc (slot_bytes n (slot_of n bytes)) others (replicate (length bytes - suc k * (n + 1)) 0))))

pub are_slots-slots_bytes : (n : ℕ) (rows : List (Option (List ℕ))) (m : ℕ) → AreRows n rows → are_slots n (length rows) (slots_bytes n rows ++ replicate m 0) ≡ true
are_slots-slots_bytes n [] m h = are_zero-replicate m
are_slots-slots_bytes n (row ∷ rows) m h =
    let P : Option (List ℕ) → Type 0 = λ r. IfSome r (IsRow n) in
    let slot = length-slot_bytes n row (IsRow-slot n row (All-head P row rows h)) in
    let rest = slots_bytes n rows ++ replicate m 0 in
    let front : is_slot (take (n + 1) (slot_bytes n row ++ rest)) ≡ true = ap is_slot (take_at (slot_bytes n row) rest (n + 1) slot) ∙ is_slot-slot_bytes n row in
    let behind : are_slots n (length rows) (drop (n + 1) (slot_bytes n row ++ rest)) ≡ true =
    ap (are_slots n (length rows)) (drop_at (slot_bytes n row) rest (n + 1) slot) ∙ are_slots-slots_bytes n rows m (All-tail P row rows h) in
    ap (are_slots n (suc (length rows))) (append_assoc (slot_bytes n row) (slots_bytes n rows) (replicate m 0)) ∙ and_from _ _ front behind

-- the test of slots, one slot after another
pub are_slots_more : (n count i : ℕ) (rest : List ℕ) (whole : Bool) → i < count → are_slots n (count - i) rest ≡ whole → is_slot (take (n + 1) rest) ≡ true → are_slots n (count - (i + 1)) (drop (n + 1) rest) ≡ whole
are_slots_more n count i rest whole lt so_far one =
    let left : count - i ≡ suc (count - (i + 1)) = omega arith in
    sym (ap (λ (k : ℕ). are_slots n k rest) left ∙ ap (λ (b : Bool). b && are_slots n (count - (i + 1)) (drop (n + 1) rest)) one) ∙ so_far

room : (k n all left : ℕ) → suc k * (n + 1) ≤ all → left + (n + 1) ≡ all → k * (n + 1) ≤ left
room k n all left le e = omega arith

-- the slots behind one have room
pub room_more : (n count i all left : ℕ) → i < count → (count - i) * (n + 1) ≤ all → left + (n + 1) ≡ all → (count - (i + 1)) * (n + 1) ≤ left
room_more n count i all left lt le e =
    let more : count - i ≡ suc (count - (i + 1)) = omega arith in
    room (count - (i + 1)) n all left (subst (λ (k : ℕ). k * (n + 1) ≤ all) more le) e
