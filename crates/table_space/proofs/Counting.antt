-- What is known of a slot, while entries come and go.
use Rattle.std.proofs.Common.{◌≡◌, ℕ, ◌+◌, ◌-◌, ◌<◌, ◌≤◌, Bool, true, false, ◌&&◌, ◌==◌, cond, if◌then◌else◌, refl, ap, sym, List, [], ◌∷◌, ◌++◌, arith, inl, inr}
use Rattle.std.specs.List.{filter, count_by, fold}
use Rattle.std.proofs.lemmas.Bool.{cases_lt, lt-ltb, le-ltb, eqb-true, eq-eqb}
use Rattle.std.proofs.lemmas.List.Sums.{sum_by-cons, sum_by_push}
use Rattle.table_space.specs.declared.entry.Entry.{Entry}
use Rattle.table_space.specs.declared.entry.Held.{Held}
use Rattle.table_space.specs.declared.entry.Held.TheVariants.{Nowhere, Emptied, Filled}
use Rattle.table_space.specs.declared.slot.Slot.{Slot}
use Rattle.table_space.specs.Entries.{is_in, is_gone_from, fills, stays}
use Rattle.table_space.specs.Slots.{one_more, one_less, filled_more, filled_less, emptied_less, reserves, reserves_for, emptied_more, taken, left, ended, one, IsCounted}

pub count-cons : (p : Entry → Bool) (e : Entry) (es : List Entry) → count_by p (e ∷ es) ≡ one (p e) + count_by p es
count-cons p e es = sum_by-cons (λ x. cond (p x) 1 0) e es

pub count-push : (p : Entry → Bool) (e : Entry) (es : List Entry) → count_by p (es ++ e ∷ []) ≡ count_by p es + one (p e)
count-push p e es = sum_by_push (λ x. cond (p x) 1 0) es e

-- the same numbers of entries pass
pub counted-as : (slot : Slot) (row : ℕ) (n m : (Entry → Bool) → ℕ) → IsCounted slot row n → ((p : Entry → Bool) → m p ≡ n p) → IsCounted slot row m
counted-as slot row n m is same = record {
  filled = λ few. omega (arith, same (fills row), is.filled few);
  emptied = λ few. omega (arith, same (reserves row), is.emptied few);
  of_one = λ few. omega (arith, same (reserves_for slot.reserved_for row), is.of_one few);
}

-- an entry that fills a slot does not reserve it
fills-held : (row : ℕ) (h : Held) → is_in row h ≡ true → is_gone_from row h ≡ false
fills-held row Nowhere is = absurd (cc)
fills-held row (Emptied held) is = absurd (cc)
fills-held row (Filled held) is = refl

fills-apart : (row : ℕ) (e : Entry) → fills row e ≡ true → reserves row e ≡ false
fills-apart row e is = fills-held row e.held is

-- an entry that reserves no slot does so for no transaction
for-none : (tx row : ℕ) (e : Entry) → reserves row e ≡ false → reserves_for tx row e ≡ false
for-none tx row e none = ap (λ (b : Bool). b && (e.tx == tx)) none

for-its : (row : ℕ) (e : Entry) → reserves row e ≡ true → reserves_for e.tx row e ≡ true
for-its row e is = rw (is, eq-eqb e.tx e.tx refl) refl

-- of a count that is lowered
less-known : (count : ℕ) → count < 65535 → one_less count ≡ count - 1
less-known count lt = rw (lt-ltb count 65535 lt) refl

less-many : (count : ℕ) → 65535 ≤ count → one_less count < 65535 → ⊥
less-many count le few = let many : one_less count ≡ 65535 = rw (le-ltb count 65535 le) refl in omega (arith, many, few)

one-le : (b : Bool) → one b ≤ 1
one-le true = omega arith
one-le false = omega arith

-- an entry more
pub counted-taken : (slot : Slot) (row : ℕ) (e : Entry) (n m : (Entry → Bool) → ℕ) → IsCounted slot row n → ((p : Entry → Bool) → m p ≡ n p + one (p e)) → IsCounted (taken row e slot) row m
counted-taken slot row e n m is more = at (fills row e) (reserves row e) refl refl
  where
    at : (f r : Bool) → fills row e ≡ f → reserves row e ≡ r → IsCounted (if f then filled_more slot else if r then emptied_more e.tx slot else slot) row m
    at true r fe re =
        let no : reserves row e ≡ false = fills-apart row e fe in
        record {
          filled = λ few. omega (arith, more (fills row), ap one fe, is.filled, few);
          emptied = λ few. omega (arith, more (reserves row), ap one no, is.emptied few);
          of_one = λ few. omega (arith, more (reserves_for slot.reserved_for row), ap one (for-none slot.reserved_for row e no), is.of_one few);
        }
    at false false fe re = record {
      filled = λ few. omega (arith, more (fills row), ap one fe, is.filled few);
      emptied = λ few. omega (arith, more (reserves row), ap one re, is.emptied few);
      of_one = λ few. omega (arith, more (reserves_for slot.reserved_for row), ap one (for-none slot.reserved_for row e re), is.of_one few);
    }
    at false true fe re = of (slot.emptied == 0) (slot.reserved_for == e.tx) refl refl
      where
        of : (z o : Bool) → (slot.emptied == 0) ≡ z → (slot.reserved_for == e.tx) ≡ o
            → IsCounted (if z then record { filled = slot.filled; emptied = 1; reserved_for = e.tx } else if o then record { filled = slot.filled; emptied = one_more slot.emptied; reserved_for = e.tx } else record { filled = slot.filled; emptied = 65535; reserved_for = slot.reserved_for }) row m
        of true o zero own =
            let none : slot.emptied ≡ 0 = eqb-true slot.emptied 0 zero in
            record {
              filled = λ few. omega (arith, more (fills row), ap one fe, is.filled few);
              emptied = λ few. omega (arith, none, more (reserves row), ap one re, is.emptied (omega (arith, none)));
              of_one = λ few. omega (arith, more (reserves_for e.tx row), ap one (for-its row e re));
            }
        of false true zero own =
            let its : slot.reserved_for ≡ e.tx = eqb-true slot.reserved_for e.tx own in
            record {
              filled = λ few. omega (arith, more (fills row), ap one fe, is.filled few);
              emptied = λ few. omega (arith, few, more (reserves row), ap one re, is.emptied (omega (arith, few)));
              of_one = λ few. omega (arith, few, more (reserves_for e.tx row), ap one (for-its row e re), is.of_one (omega (arith, few)), ap (λ t. n (reserves_for t row)) its);
            }
        of false false zero own = record {
          filled = λ few. omega (arith, more (fills row), ap one fe, is.filled few);
          emptied = λ few. absurd (omega (arith, few));
          of_one = λ few. absurd (omega (arith, few));
        }

-- an entry less
pub counted-left : (slot : Slot) (row : ℕ) (e : Entry) (n m : (Entry → Bool) → ℕ) → IsCounted slot row n → ((p : Entry → Bool) → n p ≡ m p + one (p e)) → IsCounted (left row e slot) row m
counted-left slot row e n m is fewer = at (fills row e) (reserves row e) refl refl
  where
    at : (f r : Bool) → fills row e ≡ f → reserves row e ≡ r → IsCounted (if f then filled_less slot else if r then emptied_less slot else slot) row m
    at true r fe re =
        let no : reserves row e ≡ false = fills-apart row e fe in
        record {
          filled = λ few. elim (cases_lt slot.filled 65535) [
            | inl known ↦ rw (less-known slot.filled known) (omega (arith, fewer (fills row), ap one fe, is.filled known))
            | inr past ↦ absurd (less-many slot.filled past few)
          ];
          emptied = λ few. omega (arith, fewer (reserves row), ap one no, is.emptied few);
          of_one = λ few. omega (arith, fewer (reserves_for slot.reserved_for row), ap one (for-none slot.reserved_for row e no), is.of_one few);
        }
    at false false fe re = record {
      filled = λ few. omega (arith, fewer (fills row), ap one fe, is.filled few);
      emptied = λ few. omega (arith, fewer (reserves row), ap one re, is.emptied few);
      of_one = λ few. omega (arith, fewer (reserves_for slot.reserved_for row), ap one (for-none slot.reserved_for row e re), is.of_one few);
    }
    at false true fe re = record {
      filled = λ few. omega (arith, fewer (fills row), ap one fe, is.filled few);
      emptied = λ few. elim (cases_lt slot.emptied 65535) [
        | inl known ↦ rw (less-known slot.emptied known) (omega (arith, fewer (reserves row), ap one re, is.emptied known))
        | inr past ↦ absurd (less-many slot.emptied past few)
      ];
      of_one = λ few. elim (cases_lt slot.emptied 65535) [
        | inl known ↦ rw (less-known slot.emptied known) (omega (arith, fewer (reserves_for slot.reserved_for row), one-le (reserves_for slot.reserved_for row e), is.of_one known))
        | inr past ↦ absurd (less-many slot.emptied past few)
      ];
    }

-- the entries that go at the end of a transaction, beside others that stay
pub counted-ended : (row tx : ℕ) (es : List Entry) (slot : Slot) (n beside : (Entry → Bool) → ℕ) → IsCounted slot row n → ((p : Entry → Bool) → n p ≡ beside p + count_by p es)
    → IsCounted (fold (ended row tx) slot es) row (λ p. beside p + count_by p (filter (stays tx) es))
counted-ended row tx [] slot n beside is parts = counted-as slot row n (λ p. beside p + 0) is (λ p. sym (parts p))
counted-ended row tx (e ∷ es) slot n beside is parts = at (stays tx e) (counted-ended row tx es)
  where
    at : (b : Bool)
        → ((slot : Slot) (n beside : (Entry → Bool) → ℕ) → IsCounted slot row n → ((p : Entry → Bool) → n p ≡ beside p + count_by p es) → IsCounted (fold (ended row tx) slot es) row (λ p. beside p + count_by p (filter (stays tx) es)))
        → IsCounted (fold (ended row tx) (if b then slot else left row e slot) es) row (λ p. beside p + count_by p (cond b (e ∷ filter (stays tx) es) (filter (stays tx) es)))
    at true rest =
        counted-as (fold (ended row tx) slot es) row (λ p. beside p + one (p e) + count_by p (filter (stays tx) es)) (λ p. beside p + count_by p (e ∷ filter (stays tx) es))
        (rest slot n (λ p. beside p + one (p e)) is (λ p. omega (arith, parts p, count-cons p e es)))
        (λ p. omega (arith, count-cons p e (filter (stays tx) es)))
    at false rest =
        rest (left row e slot) (λ p. beside p + count_by p es) beside
        (counted-left slot row e n (λ p. beside p + count_by p es) is (λ p. omega (arith, parts p, count-cons p e es)))
        (λ p. refl)
