-- A write to one slot of a page leaves all others.
use Rattle.std.proofs.Common.{◌≡◌, ℕ, suc, ◌+◌, ◌-◌, ◌*◌, ◌<◌, ◌≤◌, List, [], ◌∷◌, ◌++◌, length, get_or, set, take, drop, replicate, Option, Some, None, refl, sym, ap, subst, ◌∙◌, append_assoc, arith, inr}
use Rattle.std.specs.Prelude.{IfSome}
use Rattle.std.specs.Int.{w16, w32, to_be_bytes}
use Rattle.std.proofs.lemmas.List.{append-nil, length-append, length-set, length-take-le, length-drop, drop_all, take_at, drop_at, set_split, set-get_or}
use Rattle.std.proofs.lemmas.List.Elements.{All-set, All-take, All-tail}
use Rattle.std.proofs.lemmas.List.Concat.{flat_map-append}
use Rattle.std.specs.Option.{option_copied}
use denote.Ref.{Bor}
use borrow.Rule.Slice.PartMut.{put_mid}
use Rattle.slot_page.specs.Pages.{Paged, head_bytes, slot_bytes, slots_bytes, page_bytes, AreBytes, IsRow, AreRows, IsPage, HasSlot, with_row}
use Rattle.slot_page.proofs.SlotBytes.{IsRow-slot, length-slot_bytes, length-slots_bytes}
use Rattle.slot_page.proofs.HeadBytes.{behind_head, page_bytes-parts}
use Rattle.slot_page.proofs.Spelled.{Spells}
use Rattle.slot_page.proofs.InSlots.{Holds, IsOwned-slot, slot_counted, place_fits}

-- a page stays a page
IsPage-with_row : (p : Paged) (slot : ℕ) (row : Option (List ℕ)) → IsPage p → HasSlot p slot → IfSome row (IsRow p.length) → IsPage (with_row p slot row)
IsPage-with_row p slot row page h r =
    let o = IsOwned-slot p slot page h in
    inr (record {
      table = o.table;
      small = o.small;
      sized = o.sized;
      slots = length-set p.rows (slot - 1) row ∙ o.slots;
      rows = All-set (λ x. IfSome x (IsRow p.length)) p.rows (slot - 1) row r o.rows;
    })

-- slots with one of them set
slots_bytes-set : (n i : ℕ) (rows : List (Option (List ℕ))) (row : Option (List ℕ)) → i < length rows
    → slots_bytes n (set rows i row) ≡ slots_bytes n (take i rows) ++ (slot_bytes n row ++ slots_bytes n (drop (suc i) rows))
slots_bytes-set n i rows row lt =
    ap (slots_bytes n) (set_split rows i row lt) ∙ flat_map-append (slot_bytes n) (take i rows) (row ∷ drop (suc i) rows)

-- the bytes before a slot, and those behind it
before : Paged → ℕ → List ℕ
before p i = head_bytes p ++ slots_bytes p.length (take i p.rows)

behind : Paged → ℕ → List ℕ
behind p i = slots_bytes p.length (drop (suc i) p.rows) ++ replicate (2040 - length p.rows * (p.length + 1)) 0

-- a page with one slot set
page_bytes-set : (p : Paged) (i : ℕ) (row : Option (List ℕ)) → AreRows p.length p.rows → IfSome row (IsRow p.length) → i < length p.rows
    → page_bytes (record p { rows = set p.rows i row }) ≡ before p i ++ (slot_bytes p.length row ++ behind p i)
unfolding behind_head before behind
page_bytes-set p i row rows r lt =
    let n = p.length in
    let q : Paged = record p { rows = set p.rows i row } in
    let same : length (set p.rows i row) ≡ length p.rows = length-set p.rows i row in
    let size = length-slots_bytes n (set p.rows i row) (All-set (λ x. IfSome x (IsRow n)) p.rows i row r rows) in
    let left : 2040 - length (slots_bytes n (set p.rows i row)) ≡ 2040 - length p.rows * (n + 1) = ap (λ (m : ℕ). 2040 - m) (size ∙ ap (λ (m : ℕ). m * (n + 1)) same) in
    let zeros = replicate (2040 - length p.rows * (n + 1)) 0 in
    let front = slots_bytes n (take i p.rows) in
    let back = slots_bytes n (drop (suc i) p.rows) in
    let numbers = to_be_bytes w32 p.owner ++ to_be_bytes w16 n in
    page_bytes-parts q
    ∙ (ap (λ (m : ℕ). (numbers ++ m ∷ 0 ∷ []) ++ (slots_bytes n (set p.rows i row) ++ replicate (2040 - length (slots_bytes n (set p.rows i row))) 0)) same
    ∙ (ap (λ (m : ℕ). head_bytes p ++ (slots_bytes n (set p.rows i row) ++ replicate m 0)) left
    ∙ (ap (λ (xs : List ℕ). head_bytes p ++ (xs ++ zeros)) (slots_bytes-set n i p.rows row lt)
    ∙ (ap (λ (xs : List ℕ). head_bytes p ++ xs) (append_assoc front (slot_bytes n row ++ back) zeros)
    ∙ (ap (λ (xs : List ℕ). head_bytes p ++ (front ++ xs)) (append_assoc (slot_bytes n row) back zeros)
    ∙ sym (append_assoc (head_bytes p) front (slot_bytes n row ++ (back ++ zeros))))))))

-- a write between two lists
put_between : (front old back new : List ℕ) (at k : ℕ) → length front ≡ at → length old ≡ k → put_mid at k (front ++ (old ++ back)) new ≡ front ++ (new ++ back)
put_between front old back new at k e f =
    ap (λ (xs : List ℕ). xs ++ (new ++ drop k (drop at (front ++ (old ++ back))))) (take_at front (old ++ back) at e)
    ∙ (ap (λ (xs : List ℕ). front ++ (new ++ drop k xs)) (drop_at front (old ++ back) at e)
    ∙ ap (λ (xs : List ℕ). front ++ (new ++ xs)) (drop_at old back k f))

length-before : (p : Paged) (i : ℕ) → AreRows p.length p.rows → i ≤ length p.rows → length (before p i) ≡ 8 + i * (p.length + 1)
unfolding before
length-before p i rows le =
    let slots = slots_bytes p.length (take i p.rows) in
    let size : length slots ≡ i * (p.length + 1) =
    length-slots_bytes p.length (take i p.rows) (All-take (λ x. IfSome x (IsRow p.length)) i p.rows rows) ∙ ap (λ (m : ℕ). m * (p.length + 1)) (length-take-le i p.rows le) in
    omega (arith, length-append (head_bytes p) slots, size)

-- a write to a slot changes that slot alone
put_slot : (p : Paged) (slot at : ℕ) (row : Option (List ℕ)) → IsPage p → HasSlot p slot → IfSome row (IsRow p.length) → at ≡ 8 + (slot - 1) * (p.length + 1)
    → put_mid at (p.length + 1) (page_bytes p) (slot_bytes p.length row) ≡ page_bytes (with_row p slot row)
put_slot p slot at row page h r e =
    let o = IsOwned-slot p slot page h in
    let i = slot - 1 in
    let lt : i < length p.rows = omega (arith, h.from_one, h.there) in
    let old = get_or p.rows i None in
    let one = o.rows i None lt in
    let whole : page_bytes p ≡ before p i ++ (slot_bytes p.length old ++ behind p i) =
    ap (λ (rs : List (Option (List ℕ))). page_bytes (record p { rows = rs })) (sym (set-get_or p.rows i None)) ∙ page_bytes-set p i old o.rows one lt in
    ap (λ (xs : List ℕ). put_mid at (p.length + 1) xs (slot_bytes p.length row)) whole
    ∙ (put_between (before p i) (slot_bytes p.length old) (behind p i) (slot_bytes p.length row) at (p.length + 1)
    (length-before p i o.rows (omega arith) ∙ sym e) (length-slot_bytes p.length old (IsRow-slot p.length old one))
    ∙ sym (page_bytes-set p i row o.rows r lt))

-- a row written behind a 1
pub row_written : (slot row : List ℕ) → 1 ≤ length slot → put_mid 1 (length (set slot 0 1) - 1) (set slot 0 1) row ≡ 1 ∷ row
row_written [] row le = absurd (omega arith)
row_written (x ∷ rest) row le =
    ap (λ (xs : List ℕ). 1 ∷ (row ++ xs)) (drop_all (suc (length rest) - 1) rest (omega arith)) ∙ ap (λ (xs : List ℕ). 1 ∷ xs) (append-nil row)

-- the row that was written is one of the page's
row_fits : (row : Option (Bor (List ℕ))) (n m : ℕ) (new : List ℕ) → ((x : Bor (List ℕ)) → row ≡ Some x → length x.now ≡ n)
    → new ≡ slot_bytes m (option_copied row) → AreBytes new → IfSome (option_copied row) (IsRow n)
row_fits None n m new h e bytes = tt
row_fits (Some x) n m new h e bytes = record { sized = h x refl; bytes = All-tail (λ b. b < 256) 1 x.now (subst AreBytes e bytes) }

-- a slot written in its place
pub slot_spells : (bytes new : List ℕ) (p : Paged) (n slot at k : ℕ) (row : Option (Bor (List ℕ))) → Holds bytes p n → HasSlot p slot
    → ((x : Bor (List ℕ)) → row ≡ Some x → length x.now ≡ p.length) → at ≡ 8 + (slot - 1) * (n + 1) → k ≡ n + 1
    → new ≡ slot_bytes (length (take k (drop at bytes)) - 1) (option_copied row) → AreBytes new
    → Spells (put_mid at k bytes new) (with_row p slot (option_copied row))
slot_spells bytes new p n slot at k row h there fits e f g small =
    let value = option_copied row in
    let page : IsPage p = subst IsPage h.seen h.page.page in
    let spelled : bytes ≡ page_bytes p = h.page.spelled ∙ ap page_bytes h.seen in
    let same : n ≡ p.length = h.sized ∙ ap (λ (q : Paged). q.length) h.seen in
    let r = row_fits row p.length _ new fits g small in
    let room = place_fits slot n there.from_one (slot_counted bytes p n slot h there) in
    let size : length (take k (drop at bytes)) - 1 ≡ p.length =
    omega (arith, same, f, length-take-le k (drop at bytes) (omega (arith, e, f, h.long, room, length-drop at bytes))) in
    let written : put_mid at k bytes new ≡ page_bytes (with_row p slot value) =
    ap (λ (m : ℕ). put_mid at m bytes new) (f ∙ ap (λ (m : ℕ). m + 1) same)
    ∙ (ap (λ (xs : List ℕ). put_mid at (p.length + 1) bytes xs) (g ∙ ap (λ (m : ℕ). slot_bytes m value) size)
    ∙ (ap (λ (xs : List ℕ). put_mid at (p.length + 1) xs (slot_bytes p.length value)) spelled
    ∙ put_slot p slot at value page there r (e ∙ ap (λ (m : ℕ). 8 + (slot - 1) * (m + 1)) same))) in
    record { page = IsPage-with_row p slot value page there r; spelled = written }
