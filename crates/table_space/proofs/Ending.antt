-- The entries of all keys, while those under one number after another end.
use Rattle.std.proofs.Common.{◌≡◌, ◌≢◌, ℕ, ◌+◌, ◌<◌, ◌≤◌, ◌%◌, false, refl, ap, sym, ◌∙◌, length, Option, Some, None, arith, inl, inr, slice_index, ◌⊎◌}
use Rattle.std.specs.List.{list_any, filter}
use Rattle.std.specs.Int.{bit_at}
use Rattle.std.proofs.lemmas.Bool.{cases_lt, cases_eq, cases_Bool}
use Rattle.ids_base.specs.declared.lock.Key.{Key}
use Rattle.table_space.specs.declared.directory.Directory.{Directory}
use Rattle.table_space.specs.Directory.{entries_at, EndsUnder}
use Rattle.table_space.specs.Entries.{stays}
use Rattle.table_space.specs.Indexed.{goes, IsIndexed}
use Rattle.table_space.specs.Marks.{IsUnmarked}
use Rattle.table_space.specs.Numbers.{number_of, entries_in, entries_under}
use Rattle.table_space.specs.Seen.{Ends}
use Rattle.table_space.proofs.Indexing.{bits-apart, number-within, slot-there}
use Rattle.table_space.proofs.Marking.{all-stay, filter-twice}

-- under the numbers up to below one all have ended, and the others are as they were
pub record IsEnding (was now : Directory) (tx from : ℕ) : Type 0 where
  pub past : (t : ℕ) (k : Key) (n : ℕ) → number_of was.numbers t k ≡ Some n → n < from → entries_at now t k ≡ filter (stays tx) (entries_at was t k)
  pub ahead : (t : ℕ) (k : Key) (n : ℕ) → number_of was.numbers t k ≡ Some n → from ≤ n → (number_of now.numbers t k ≡ Some n) × (entries_at now t k ≡ entries_at was t k)
  pub absent : (t : ℕ) (k : Key) → number_of was.numbers t k ≡ None → number_of now.numbers t k ≡ None

-- what is known of a number that some key may have
cases-option : (o : Option ℕ) → (o ≡ None) ⊎ ((n : ℕ) × (o ≡ Some n))
cases-option None = inl refl
cases-option (Some n) = inr (n, refl)

-- a number without the mark of a transaction has no entry that goes with it
unmarked-stay : (d : Directory) → IsIndexed d.numbers d.listed.items d.marks → (tx : ℕ) (t : ℕ) (k : Key) (n : ℕ) → number_of d.numbers t k ≡ Some n → bit_at (slice_index d.marks n) (tx % 63) ≡ 0
    → filter (stays tx) (entries_at d t k) ≡ entries_at d t k
unmarked-stay d is tx t k n e none =
    let l = slot-there d.listed.items n (number-within is t k n e) in
    let at : entries_at d t k ≡ l.0.entries.items = ap (entries_under d.listed.items) e ∙ ap entries_in l.1 in
    let keep : list_any (goes tx) l.0.entries.items ≡ false = elim (cases_Bool (list_any (goes tx) l.0.entries.items)) [
      | inl goes_some ↦ absurd (bits-apart _ ((is.marked n l.0 l.1).left tx goes_some) none)
      | inr not ↦ not
    ] in
    rw at (all-stay tx l.0.entries.items keep)

-- numbers without the mark are passed
pub passed : (was now : Directory) (tx from to : ℕ) → from ≤ to → IsIndexed now.numbers now.listed.items now.marks → IsEnding was now tx from → IsUnmarked now.marks (tx % 63) from to → IsEnding was now tx to
passed was now tx from to low is so none = record {
  past = λ t k n e lt. elim (cases_lt n from) [
    | inl below ↦ so.past t k n e below
    | inr above ↦ let a = so.ahead t k n e above in sym (unmarked-stay now is tx t k n a.0 (none n above lt)) ∙ ap (filter (stays tx)) a.1
  ];
  ahead = λ t k n e le. so.ahead t k n e (omega arith);
  absent = so.absent;
}

-- those under one number more end
pub ended-more : (was mid now : Directory) (tx number : ℕ) → IsEnding was mid tx number → EndsUnder mid now number tx → IsEnding was now tx (number + 1)
ended-more was mid now tx number so step = record {
  past = λ t k n e lt. elim (cases_eq n number) [
    | inl same ↦ let a = so.ahead t k n e (omega arith) in step.ended t k (a.0 ∙ ap (λ i. Some i) same) ∙ ap (filter (stays tx)) a.1
    | inr other ↦ again t k (so.past t k n e (omega arith))
  ];
  ahead = λ t k n e le.
      let a = so.ahead t k n e (omega arith) in
      let ne : n ≢ number = omega arith in
      let b = step.beside t k n ne a.0 in
      (b.0, b.1 ∙ a.1);
  absent = λ t k e. step.unnamed t k (so.absent t k e);
}
  where
    again : (t : ℕ) (k : Key) → entries_at mid t k ≡ filter (stays tx) (entries_at was t k) → entries_at now t k ≡ filter (stays tx) (entries_at was t k)
    again t k h = elim (cases-option (number_of mid.numbers t k)) [
      | inl none ↦ ap (entries_under now.listed.items) (step.unnamed t k none) ∙ sym (ap (entries_under mid.listed.items) none) ∙ h
      | inr some ↦ elim (cases_eq some.0 number) [
        | inl same ↦ step.ended t k (some.1 ∙ ap (λ i. Some i) same) ∙ ap (filter (stays tx)) h ∙ filter-twice (stays tx) (entries_at was t k)
        | inr other ↦ (step.beside t k some.0 other some.1).1 ∙ h
      ]
    ]

-- at the start
pub ending-none : (d : Directory) (tx : ℕ) → IsEnding d d tx 0
ending-none d tx = record {
  past = λ t k n e lt. absurd (omega arith);
  ahead = λ t k n e le. (e, refl);
  absent = λ t k e. e;
}

-- once no number from one on has the mark
pub ended-all : (was now : Directory) (tx from : ℕ) → IsIndexed now.numbers now.listed.items now.marks → IsEnding was now tx from → IsUnmarked now.marks (tx % 63) from (length now.marks) → Ends (entries_at was) (entries_at now) tx
ended-all was now tx from is so none = λ t k. elim (cases-option (number_of was.numbers t k)) [
  | inl no_number ↦ ap (entries_under now.listed.items) (so.absent t k no_number) ∙ sym (ap (λ o. filter (stays tx) (entries_under was.listed.items o)) no_number)
  | inr some ↦ elim (cases_lt some.0 from) [
    | inl below ↦ so.past t k some.0 some.1 below
    | inr above ↦
        let a = so.ahead t k some.0 some.1 above in
        let lt : some.0 < length now.marks = omega (arith, number-within is t k some.0 a.0, is.room) in
        sym (unmarked-stay now is tx t k some.0 a.0 (none some.0 above lt)) ∙ ap (filter (stays tx)) a.1
  ]
]
