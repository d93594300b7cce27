-- Reading records one after another, as a loop does.
use Rattle.std.proofs.Common.{◌≡◌, ℕ, suc, ◌-◌, ◌+◌, ◌≤◌, ◌<◌, Bool, true, false, cond, eqb, List, [], ◌∷◌, length, Option, Some, None, refl, sym, ap, subst, ◌∙◌, arith}
use Rattle.std.specs.Prelude.{is_some}
use Rattle.std.specs.List.{AllByRecursion}
use Rattle.std.proofs.lemmas.Option.{same_Some}
use Rattle.std.proofs.lemmas.List.{nil_from_length}
use Rattle.std.proofs.lemmas.List.Concat.{flat_map-cons}
use Rattle.log_records.specs.Entries.{Entry}
use Rattle.log_records.specs.Spelling.{entry_bytes, IsEntry}
use Rattle.log_records.specs.Reading.{◌>>=◌, entry_at, entries_at}
use Rattle.log_records.specs.Bodies.{entries_bytes, whole_at}
use Rattle.log_records.specs.Keeping.{left_in, AreLeft}
use Rattle.log_records.proofs.EntryReading.{entry_again}
use Rattle.log_records.proofs.Kept.{left_is, are_left}

-- whether nothing is behind what is read
abbrev pub ends_there : Option (List Entry × List ℕ) → Bool
ends_there None = false
ends_there (Some found) = eqb (length found.1) 0

ends_there-cons : (e : Entry) (read : Option (List Entry × List ℕ)) → ends_there (read >>= λ x. Some (e ∷ x.0, x.1)) ≡ ends_there read
ends_there-cons e (Some x) = refl
ends_there-cons e None = refl

is_some-if : (b : Bool) (es : List Entry) → is_some (cond b (Some es) None) ≡ b
is_some-if true es = refl
is_some-if false es = refl

is_some-read : (read : Option (List Entry × List ℕ)) → is_some (read >>= λ found. cond (eqb (length found.1) 0) (Some found.0) None) ≡ ends_there read
is_some-read (Some x) = is_some-if (eqb (length x.1) 0) x.0
is_some-read None = refl

pub is_some-whole_at : (count : ℕ) (bytes : List ℕ) → is_some (whole_at count bytes) ≡ ends_there (entries_at count bytes)
unfolding whole_at
is_some-whole_at count bytes = is_some-read (entries_at count bytes)

pub test_goes_on : (count i : ℕ) (bytes : List ℕ) (e : Entry) (after : List ℕ) (total : Bool) → i < count → entry_at bytes ≡ Some (e, after)
    → ends_there (entries_at (count - i) bytes) ≡ total → ends_there (entries_at (count - (i + 1)) after) ≡ total
unfolding entries_at
test_goes_on count i bytes e after total lt h so_far =
    let k : count - i ≡ suc (count - (i + 1)) = omega arith in
    let one : ends_there (entries_at (count - i) bytes) ≡ ends_there (entries_at (count - (i + 1)) after) = rw (k, h) (ends_there-cons e (entries_at (count - (i + 1)) after)) in
    sym one ∙ so_far

pub test_stops : (count i : ℕ) (bytes : List ℕ) (total : Bool) → i < count → entry_at bytes ≡ None → ends_there (entries_at (count - i) bytes) ≡ total → total ≡ false
unfolding entries_at
test_stops count i bytes total lt h so_far =
    let k : count - i ≡ suc (count - (i + 1)) = omega arith in
    let one : ends_there (entries_at (count - i) bytes) ≡ false = rw (k, h) refl in
    sym so_far ∙ one

pub test_done : (count i : ℕ) (bytes : List ℕ) (total : Bool) → count ≤ i → ends_there (entries_at (count - i) bytes) ≡ total → total ≡ eqb (length bytes) 0
unfolding entries_at
test_done count i bytes total le so_far =
    let k : count - i ≡ 0 = omega arith in
    let one : ends_there (entries_at (count - i) bytes) ≡ eqb (length bytes) 0 = rw k refl in
    sym so_far ∙ one

-- the first of the records that are left in bytes, and the others
pub record FirstLeft (count : ℕ) (bytes : List ℕ) : Type 0 where
  pub first : Entry × List ℕ
  pub read : entry_at bytes ≡ Some first
  pub others : AreLeft (count - 1) first.1
  pub joined : left_in count bytes ≡ first.0 ∷ left_in (count - 1) first.1

first_of : (count : ℕ) (bytes : List ℕ) (es : List Entry) → 1 ≤ count → left_in count bytes ≡ es → length es ≡ count → AllByRecursion IsEntry es → bytes ≡ entries_bytes es → FirstLeft count bytes
first_of count bytes [] some are counted each spelled = absurd (omega (arith, counted))
first_of count bytes (e ∷ es) some are counted each spelled =
    let less : length es ≡ count - 1 = omega (arith, counted) in
    record {
      first = (e, entries_bytes es);
      read = ap entry_at (spelled ∙ flat_map-cons entry_bytes e es) ∙ entry_again e (entries_bytes es) each.0;
      others = are_left (count - 1) (entries_bytes es) es less each.1 refl;
      joined = are ∙ ap (λ (t : List Entry). e ∷ t) (sym (left_is (count - 1) (entries_bytes es) es less each.1 refl));
    }

pub first_left : (count : ℕ) (bytes : List ℕ) → 1 ≤ count → AreLeft count bytes → FirstLeft count bytes
first_left count bytes some left = first_of count bytes (left_in count bytes) some refl left.counted left.each left.spelled

-- the record that was read is the first, and what is left behind it
pub left_behind : (count : ℕ) (bytes : List ℕ) (e : Entry) (after : List ℕ) → 1 ≤ count → AreLeft count bytes → entry_at bytes ≡ Some (e, after)
    → AreLeft (count - 1) after × (left_in count bytes ≡ e ∷ left_in (count - 1) after)
left_behind count bytes e after some left read =
    let f = first_left count bytes some left in
    let mine : Entry × List ℕ = (e, after) in
    let same : f.first ≡ mine = same_Some f.first mine (sym f.read ∙ read) in
    subst (λ (x : Entry × List ℕ). AreLeft (count - 1) x.1 × (left_in count bytes ≡ x.0 ∷ left_in (count - 1) x.1)) same (f.others, f.joined)

-- none is left
pub none_left : (bytes : List ℕ) → AreLeft 0 bytes → left_in 0 bytes ≡ []
none_left bytes left = nil_from_length (left_in 0 bytes) left.counted
