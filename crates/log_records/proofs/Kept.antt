-- Records that stand in the used bytes of a body.
use Rattle.std.proofs.Common.{◌≡◌, ℕ, ◌+◌, ◌≤◌, List, [], ◌∷◌, ◌++◌, length, take, Some, refl, sym, ap, subst, ◌∙◌, length-append, arith}
use Rattle.std.specs.List.{AllByRecursion}
use Rattle.std.proofs.lemmas.List.{append-nil, length-take}
use Rattle.std.proofs.lemmas.List.Concat.{flat_map-append}
use Rattle.log_records.specs.Entries.{Entry}
use Rattle.log_records.specs.Spelling.{entry_bytes, entry_size, IsEntry}
use Rattle.log_records.specs.Reading.{entries_at}
use Rattle.log_records.specs.Bodies.{entries_bytes, entries_size}
use Rattle.log_records.specs.Keeping.{left_in, kept, AreLeft, IsKept}
use Rattle.log_records.proofs.Sizes.{length-entries_bytes, entries_size-low}
use Rattle.log_records.proofs.EntryReading.{entries_again}

-- the records that bytes spell are those that are left in them
pub left_is : (count : ℕ) (bytes : List ℕ) (es : List Entry) → length es ≡ count → AllByRecursion IsEntry es → bytes ≡ entries_bytes es → left_in count bytes ≡ es
unfolding left_in
left_is count bytes es counted each spelled =
    let read : entries_at count bytes ≡ Some (es, []) =
    ap (entries_at count) (spelled ∙ sym (append-nil (entries_bytes es))) ∙ subst (λ (n : ℕ). entries_at n (entries_bytes es ++ []) ≡ Some (es, [])) counted (entries_again es [] each) in
    rw read refl

-- so they are left there
pub are_left : (count : ℕ) (bytes : List ℕ) (es : List Entry) → length es ≡ count → AllByRecursion IsEntry es → bytes ≡ entries_bytes es → AreLeft count bytes
are_left count bytes es counted each spelled =
    let same = left_is count bytes es counted each spelled in
    record { counted = ap length same ∙ counted; each = subst (AllByRecursion IsEntry) (sym same) each; spelled = spelled ∙ ap entries_bytes (sym same) }

-- the records that the used bytes spell are those that are kept
pub kept_is : (count used : ℕ) (bytes : List ℕ) (es : List Entry) → length es ≡ count → AllByRecursion IsEntry es → take used bytes ≡ entries_bytes es → kept count used bytes ≡ es
unfolding kept
kept_is count used bytes es counted each spelled = left_is count (take used bytes) es counted each spelled

-- so a body that has these bytes keeps them
pub made : (count used : ℕ) (bytes : List ℕ) (es : List Entry) → used ≤ 2004 → length bytes ≡ 2004 → length es ≡ count → AllByRecursion IsEntry es → take used bytes ≡ entries_bytes es → IsKept count used bytes
made count used bytes es room long counted each spelled =
    let same = kept_is count used bytes es counted each spelled in
    record {
      room = room;
      long = long;
      counted = ap length same ∙ counted;
      each = subst (AllByRecursion IsEntry) (sym same) each;
      spelled = spelled ∙ ap entries_bytes (sym same);
    }

-- the used bytes are as many as the records take
pub used_is : (count used : ℕ) (bytes : List ℕ) → IsKept count used bytes → used ≡ entries_size (kept count used bytes)
used_is count used bytes k =
    omega (arith, k.room, k.long, length-take used bytes, ap length k.spelled, length-entries_bytes (kept count used bytes))

-- their number fits, with one more
pub few : (count used : ℕ) (bytes : List ℕ) → IsKept count used bytes → count ≤ 182
few count used bytes k = omega (arith, k.room, used_is count used bytes k, entries_size-low (kept count used bytes), k.counted)

pub AllByRecursion-push : {X : Type 0} (P : X → Type 0) (xs : List X) (y : X) → AllByRecursion P xs → P y → AllByRecursion P (xs ++ y ∷ [])
AllByRecursion-push P [] y each last = (last, tt)
AllByRecursion-push P (x ∷ xs) y each last = (each.0, AllByRecursion-push P xs y each.1 last)

pub entries_bytes-push : (es : List Entry) (e : Entry) → entries_bytes (es ++ e ∷ []) ≡ entries_bytes es ++ entry_bytes e
entries_bytes-push es e = flat_map-append entry_bytes es (e ∷ []) ∙ ap (λ (t : List ℕ). entries_bytes es ++ t) (append-nil (entry_bytes e))

-- one more record behind those that are kept
pub record Appends (count used : ℕ) (old : List ℕ) (e : Entry) (new : List ℕ) : Type 0 where
  pub keeps : IsKept (count + 1) (used + entry_size e) new
  pub after : kept (count + 1) (used + entry_size e) new ≡ kept count used old ++ e ∷ []

pub appends : (count used : ℕ) (old new : List ℕ) (e : Entry) → IsKept count used old → IsEntry e → used + entry_size e ≤ 2004 → length new ≡ 2004
    → take (used + entry_size e) new ≡ take used old ++ entry_bytes e → Appends count used old e new
appends count used old new e k entry room long front =
    let es = kept count used old in
    let counted : length (es ++ e ∷ []) ≡ count + 1 = omega (arith, length-append es (e ∷ []), k.counted) in
    let each = AllByRecursion-push IsEntry es e k.each entry in
    let spelled : take (used + entry_size e) new ≡ entries_bytes (es ++ e ∷ []) = front ∙ ap (λ (t : List ℕ). t ++ entry_bytes e) k.spelled ∙ sym (entries_bytes-push es e) in
    record { keeps = made (count + 1) (used + entry_size e) new (es ++ e ∷ []) room long counted each spelled; after = kept_is (count + 1) (used + entry_size e) new (es ++ e ∷ []) counted each spelled }

-- what a body keeps after a record was written behind the others
pub record AppendsAt (count used size : ℕ) (old : List ℕ) (e : Entry) (new : List ℕ) : Type 0 where
  pub keeps : IsKept (count + 1) (used + size) new
  pub after : kept (count + 1) (used + size) new ≡ kept count used old ++ e ∷ []

pub appended : (count used size end : ℕ) (old new : List ℕ) (e : Entry) → IsKept count used old → IsEntry e → size ≡ entry_size e → used + size ≤ 2004 → length new ≡ length old → end ≡ used + entry_size e
    → take end new ≡ take used old ++ entry_bytes e → AppendsAt count used size old e new
appended count used size end old new e k entry size_is room long end_is front =
    let at_end : take (used + entry_size e) new ≡ take used old ++ entry_bytes e = subst (λ (n : ℕ). take n new ≡ take used old ++ entry_bytes e) end_is front in
    let a = appends count used old new e k entry (omega (arith, room, size_is)) (omega (arith, long, k.long)) at_end in
    subst (λ (n : ℕ). AppendsAt count used n old e new) (sym size_is) (record { keeps = a.keeps; after = a.after })
