-- What is known of slots, where the entries under one number change.
use Rattle.std.proofs.Common.{◌≡◌, ℕ, zero, suc, ◌+◌, ◌-◌, ◌<◌, ◌≤◌, Bool, ap, sym, ◌∙◌, subst, List, [], ◌∷◌, ◌++◌, length, set, Option, Some, arith}
use Rattle.std.specs.List.{slice_get, filter, count_by, fold}
use Rattle.std.proofs.lemmas.List.Sums.{sum_by-cons, sum_by_push}
use Rattle.table_space.specs.declared.entry.Entry.{Entry}
use Rattle.table_space.specs.declared.entry.Keyed.{Keyed}
use Rattle.table_space.specs.declared.slot.Slot.{Slot}
use Rattle.table_space.specs.Entries.{stays}
use Rattle.table_space.specs.Noted.{made}
use Rattle.table_space.specs.Numbers.{entries_in}
use Rattle.table_space.specs.Slots.{Counts, slot_at, taken, left, ended, one, how_many, IsExchanged, IsCounted, AreCounts}
use Rattle.table_space.proofs.Counting.{counted-as, counted-taken, counted-left, counted-ended, count-push}

-- the entries under a number, and under the others
pub many-cons : (p : Entry → Bool) (l : Keyed) (ls : List Keyed) → how_many p (l ∷ ls) ≡ count_by p l.entries.items + how_many p ls
many-cons p l ls = sum_by-cons (λ (x : Keyed). count_by p x.entries.items) l ls

many-set : (p : Entry → Bool) (ls : List Keyed) (n : ℕ) (l : Keyed) → n < length ls → how_many p (set ls n l) + count_by p (entries_in (slice_get ls n)) ≡ how_many p ls + count_by p l.entries.items
many-set p [] n l lt = absurd (omega arith)
many-set p (x ∷ ls) zero l lt = omega (arith, many-cons p x ls, many-cons p l ls)
many-set p (x ∷ ls) (suc n) l lt = omega (arith, many-cons p x ls, many-cons p x (set ls n l), many-set p ls n l (omega arith))

pub few-many : (p : Entry → Bool) (ls : List Keyed) (n : ℕ) → count_by p (entries_in (slice_get ls n)) ≤ how_many p ls
few-many p [] n = omega arith
few-many p (x ∷ ls) zero = omega (arith, many-cons p x ls)
few-many p (x ∷ ls) (suc n) = omega (arith, many-cons p x ls, few-many p ls n)

-- a number more without entries
pub counts-push : (cs : Counts) (ls : List Keyed) (l : Keyed) → l.entries.items ≡ [] → AreCounts cs ls → AreCounts cs (ls ++ l ∷ [])
counts-push cs ls l empty is row = counted-as (slot_at cs row) row (λ p. how_many p ls) (λ p. how_many p (ls ++ l ∷ [])) (is row) (λ p. omega (arith, sum_by_push (λ (x : Keyed). count_by p x.entries.items) ls l, ap (count_by p) empty))

-- the same lists and the same entry that came
pub exchanged-as : {was was' now now' : List Entry} {went came came' : Entry} → was ≡ was' → now ≡ now' → came ≡ came' → IsExchanged was now went came → IsExchanged was' now' went came'
exchanged-as old new own is = rw (← old, ← new, ← own) is

-- the entries under a number change
module _ (cs : Counts) (ls : List Keyed) (n : ℕ) (l : Keyed) (lt : n < length ls) (is : AreCounts cs ls) where
  -- not at all
  pub counts-same : (old : Keyed) → slice_get ls n ≡ Some old → l.entries.items ≡ old.entries.items → AreCounts cs (set ls n l)
  counts-same old at items row =
      counted-as (slot_at cs row) row (λ p. how_many p ls) (λ p. how_many p (set ls n l)) (is row)
      (λ p. omega (arith, many-set p ls n l lt, ap (count_by p) items, ap (λ (o : Option Keyed). count_by p (entries_in o)) at))

  -- by an entry more without a row id
  pub counts-entered : (es : List Entry) (tx : ℕ) → entries_in (slice_get ls n) ≡ es → l.entries.items ≡ es ++ made tx ∷ [] → AreCounts cs (set ls n l)
  counts-entered es tx at items row =
      counted-taken (slot_at cs row) row (made tx) (λ p. how_many p ls) (λ p. how_many p (set ls n l)) (is row)
      (λ p. omega (arith, many-set p ls n l lt, ap (count_by p) items, count-push p (made tx) es, ap (count_by p) at))

  -- by an entry in place of another
  pub counts-noted : (cs' cs'' : Counts) (old : Keyed) (went came : Entry) → slice_get ls n ≡ Some old → IsExchanged old.entries.items l.entries.items went came
      → ((row : ℕ) → slot_at cs' row ≡ left row went (slot_at cs row)) → ((row : ℕ) → slot_at cs'' row ≡ taken row came (slot_at cs' row)) → AreCounts cs'' (set ls n l)
  counts-noted cs' cs'' old went came at change less more row =
      let had : (p : Entry → Bool) → one (p went) ≤ how_many p ls = λ p. omega (arith, few-many p ls n, change.before p, ap (λ (o : Option Keyed). count_by p (entries_in o)) at) in
      let mid : IsCounted (left row went (slot_at cs row)) row (λ p. how_many p ls - one (p went)) = counted-left (slot_at cs row) row went (λ p. how_many p ls) (λ p. how_many p ls - one (p went)) (is row) (λ p. omega (arith, had p)) in
      let end : IsCounted (taken row came (left row went (slot_at cs row))) row (λ p. how_many p (set ls n l)) = counted-taken (left row went (slot_at cs row)) row came (λ p. how_many p ls - one (p went)) (λ p. how_many p (set ls n l)) mid
      (λ p. omega (arith, had p, many-set p ls n l lt, change.before p, change.after p, ap (λ (o : Option Keyed). count_by p (entries_in o)) at)) in
      subst (λ (s : Slot). IsCounted s row (λ p. how_many p (set ls n l))) (sym (more row ∙ ap (taken row came) (less row))) end

  -- by the end of a transaction
  pub counts-ended : (cs' : Counts) (old : Keyed) (tx : ℕ) → slice_get ls n ≡ Some old → l.entries.items ≡ filter (stays tx) old.entries.items
      → ((row : ℕ) → slot_at cs' row ≡ fold (ended row tx) (slot_at cs row) old.entries.items) → AreCounts cs' (set ls n l)
  counts-ended cs' old tx at items less row =
      let had : (p : Entry → Bool) → count_by p old.entries.items ≤ how_many p ls = λ p. omega (arith, few-many p ls n, ap (λ (o : Option Keyed). count_by p (entries_in o)) at) in
      let end = counted-ended row tx old.entries.items (slot_at cs row) (λ p. how_many p ls) (λ p. how_many p ls - count_by p old.entries.items) (is row) (λ p. omega (arith, had p)) in
      subst (λ (s : Slot). IsCounted s row (λ p. how_many p (set ls n l))) (sym (less row))
      (counted-as (fold (ended row tx) (slot_at cs row) old.entries.items) row (λ p. how_many p ls - count_by p old.entries.items + count_by p (filter (stays tx) old.entries.items)) (λ p. how_many p (set ls n l)) end
      (λ p. omega (arith, had p, many-set p ls n l lt, ap (count_by p) items, ap (λ (o : Option Keyed). count_by p (entries_in o)) at)))
