-- What is known of a slot tells of the entries.
use Rattle.std.proofs.Common.{◌≡◌, ◌≢◌, ℕ, ◌+◌, ◌<◌, ◌≤◌, Bool, true, false, not, ◌&&◌, ◌||◌, ◌==◌, if◌then◌else◌, refl, ap, sym, ◌∙◌, List, [], ◌∷◌, Some, None, arith}
use Rattle.std.specs.Prelude.{nat_lt, IsTrue, ◌↔◌}
use Rattle.std.specs.List.{list_any, count_by}
use Rattle.std.proofs.lemmas.Bool.{and_parts, lt-ltb, le-ltb, ltb-true, ltb-false, eqb-true, eqb-false}
use Rattle.table_space.specs.declared.entry.Entry.{Entry}
use Rattle.table_space.specs.declared.entry.Keyed.{Keyed}
use Rattle.table_space.specs.declared.entry.Held.{Held}
use Rattle.table_space.specs.declared.entry.Held.TheVariants.{Nowhere, Emptied, Filled}
use Rattle.table_space.specs.declared.slot.Slot.{Slot}
use Rattle.table_space.specs.Entries.{is_in, is_at, is_gone_from, has_row, blocks, fills}
use Rattle.table_space.specs.Slots.{reserves, reserves_for, is_some_known, known_taken, may_be_left, known_blocks, one, how_many, IsCounted}
use Rattle.table_space.specs.Fronts.{IsFilled, IsTaken}
use Rattle.table_space.specs.Indexed.{IsIndexed}
use Rattle.table_space.specs.Numbers.{Numbers, number_of, entries_under}
use Rattle.table_space.specs.Reserves.{IsReserved}
use Rattle.table_space.specs.Seen.{IsBlocked}
use Rattle.table_space.proofs.Counting.{count-cons}
use Rattle.table_space.proofs.Counts.{many-cons}
use Rattle.table_space.proofs.Indexing.{any-seen, seen-any}

-- some entry passes exactly where some are counted
any-count : (p : Entry → Bool) (es : List Entry) → list_any p es ≡ nat_lt 0 (count_by p es)
any-count p [] = refl
any-count p (e ∷ es) = at (p e) refl (any-count p es)
  where
    at : (b : Bool) → p e ≡ b → list_any p es ≡ nat_lt 0 (count_by p es) → (b || list_any p es) ≡ nat_lt 0 (count_by p (e ∷ es))
    at true is more = sym (lt-ltb 0 (count_by p (e ∷ es)) (omega (arith, count-cons p e es, ap one is)))
    at false is more = let same : count_by p es ≡ count_by p (e ∷ es) = omega (arith, count-cons p e es, ap one is) in more ∙ ap (nat_lt 0) same

-- so it is of all keys' entries
abbrev pub some_has : (Entry → Bool) → List Keyed → Bool
some_has p ls = list_any (λ l. list_any p l.entries.items) ls

any-many : (p : Entry → Bool) (ls : List Keyed) → some_has p ls ≡ nat_lt 0 (how_many p ls)
any-many p [] = refl
any-many p (l ∷ ls) = at (list_any p l.entries.items) (any-count p l.entries.items) (any-many p ls)
  where
    at : (b : Bool) → b ≡ nat_lt 0 (count_by p l.entries.items) → some_has p ls ≡ nat_lt 0 (how_many p ls) → (b || some_has p ls) ≡ nat_lt 0 (how_many p (l ∷ ls))
    at true is more = sym (lt-ltb 0 (how_many p (l ∷ ls)) (omega (arith, many-cons p l ls, ltb-true 0 (count_by p l.entries.items) (sym is))))
    at false is more =
        let same : how_many p ls ≡ how_many p (l ∷ ls) = omega (arith, many-cons p l ls, ltb-false 0 (count_by p l.entries.items) (sym is)) in
        more ∙ ap (nat_lt 0) same

-- a sum of two numbers of entries, and one that is no less than another
count-split : (p q r : Entry → Bool) → ((e : Entry) → one (p e) ≡ one (q e) + one (r e)) → (es : List Entry) → count_by p es ≡ count_by q es + count_by r es
count-split p q r each [] = refl
count-split p q r each (e ∷ es) = omega (arith, each e, count-cons p e es, count-cons q e es, count-cons r e es, count-split p q r each es)

many-split : (p q r : Entry → Bool) → ((e : Entry) → one (p e) ≡ one (q e) + one (r e)) → (ls : List Keyed) → how_many p ls ≡ how_many q ls + how_many r ls
many-split p q r each [] = refl
many-split p q r each (l ∷ ls) = omega (arith, count-split p q r each l.entries.items, many-cons p l ls, many-cons q l ls, many-cons r l ls, many-split p q r each ls)

count-le : (p q : Entry → Bool) → ((e : Entry) → one (p e) ≤ one (q e)) → (es : List Entry) → count_by p es ≤ count_by q es
count-le p q each [] = omega arith
count-le p q each (e ∷ es) = omega (arith, each e, count-cons p e es, count-cons q e es, count-le p q each es)

many-le : (p q : Entry → Bool) → ((e : Entry) → one (p e) ≤ one (q e)) → (ls : List Keyed) → how_many p ls ≤ how_many q ls
many-le p q each [] = omega arith
many-le p q each (l ∷ ls) = omega (arith, count-le p q each l.entries.items, many-cons p l ls, many-cons q l ls, many-le p q each ls)

-- the entry reserves the slot for a transaction other than this one
abbrev for_other : ℕ → ℕ → Entry → Bool
for_other tx row e = reserves row e && not (e.tx == tx)

blocks-held : (row : ℕ) (h : Held) (b : Bool) → one (is_in row h || (is_gone_from row h && b)) ≡ one (is_in row h) + one (is_gone_from row h && b)
blocks-held row Nowhere b = refl
blocks-held row (Emptied held) b = omega arith
blocks-held row (Filled held) b = at (held == row)
  where
    at : (c : Bool) → one (c || (false && b)) ≡ one c + one (false && b)
    at true = refl
    at false = refl

its-or-not : (r b : Bool) → one r ≡ one (r && b) + one (r && not b)
its-or-not true true = refl
its-or-not true false = refl
its-or-not false true = refl
its-or-not false false = refl

not-its : (t tx : ℕ) → t ≢ tx → (row : ℕ) (e : Entry) → one (reserves_for t row e) ≤ one (for_other tx row e)
not-its t tx ne row e = at (reserves row e) (e.tx == t) (e.tx == tx) refl refl
  where
    at : (r b c : Bool) → (e.tx == t) ≡ b → (e.tx == tx) ≡ c → one (r && b) ≤ one (r && not c)
    at false b c be ce = omega arith
    at true false c be ce = omega arith
    at true true false be ce = omega arith
    at true true true be ce = absurd (ne (sym (eqb-true e.tx t be) ∙ eqb-true e.tx tx ce))

fills-has : (row : ℕ) (h : Held) → one (is_in row h) ≤ one (is_at row h)
fills-has row Nowhere = omega arith
fills-has row (Emptied held) = omega arith
fills-has row (Filled held) = omega arith

reserves-has : (row : ℕ) (h : Held) (b : Bool) → one (is_gone_from row h && b) ≤ one (is_at row h)
reserves-has row Nowhere b = omega arith
reserves-has row (Emptied held) b = at (held == row) b
  where
    at : (c b : Bool) → one (c && b) ≤ one c
    at true true = omega arith
    at true false = omega arith
    at false b = omega arith
reserves-has row (Filled held) b = omega arith

module _ (slot : Slot) (row : ℕ) (ls : List Keyed) (is : IsCounted slot row (λ p. how_many p ls)) where
  -- how many block a slot
  blocking : (tx : ℕ) → how_many (blocks row tx) ls ≡ how_many (fills row) ls + how_many (for_other tx row) ls
  blocking tx = many-split (blocks row tx) (fills row) (for_other tx row) (λ e. blocks-held row e.held (not (e.tx == tx))) ls

  reserving : (tx : ℕ) → how_many (reserves row) ls ≡ how_many (reserves_for tx row) ls + how_many (for_other tx row) ls
  reserving tx = many-split (reserves row) (reserves_for tx row) (for_other tx row) (λ e. its-or-not (reserves row e) (e.tx == tx)) ls

  -- a slot that is known to be taken is
  filled-some : is_some_known slot.filled ≡ true → 1 ≤ how_many (fills row) ls
  filled-some known = let some = and_parts (nat_lt 0 slot.filled) (nat_lt slot.filled 65535) known in omega (arith, ltb-true 0 slot.filled some.0, is.filled (ltb-true slot.filled 65535 some.1))

  emptied-some : is_some_known slot.emptied ≡ true → 1 ≤ how_many (reserves_for slot.reserved_for row) ls
  emptied-some known = let some = and_parts (nat_lt 0 slot.emptied) (nat_lt slot.emptied 65535) known in omega (arith, ltb-true 0 slot.emptied some.0, is.of_one (ltb-true slot.emptied 65535 some.1))

  has-some : (p : Entry → Bool) → 1 ≤ how_many p ls → some_has p ls ≡ true
  has-some p some = any-many p ls ∙ lt-ltb 0 (how_many p ls) (omega (arith, some))

  pub taken-told : known_taken slot ≡ true → some_has (has_row row) ls ≡ true
  taken-told known = at (is_some_known slot.filled) (is_some_known slot.emptied) refl refl known
    where
      at : (f e : Bool) → is_some_known slot.filled ≡ f → is_some_known slot.emptied ≡ e → (f || e) ≡ true → some_has (has_row row) ls ≡ true
      at true e fe ee h = has-some (has_row row) (omega (arith, filled-some fe, many-le (fills row) (has_row row) (λ x. fills-has row x.held) ls))
      at false true fe ee h = has-some (has_row row) (omega (arith, emptied-some ee, many-le (reserves_for slot.reserved_for row) (has_row row) (λ x. reserves-has row x.held (x.tx == slot.reserved_for)) ls))
      at false false fe ee h = absurd (cc)

  -- one that is reserved for a transaction, and is not taken for one that may be left for it, is filled
  pub left-told : (tx : ℕ) → may_be_left tx slot ≡ false → some_has (reserves_for tx row) ls ≡ true → some_has (fills row) ls ≡ true
  left-told tx known some = at (is_some_known slot.filled) (nat_lt 0 slot.emptied) (slot.reserved_for == tx) (nat_lt slot.emptied 65535) refl refl refl refl known
    where
      reserved : 1 ≤ how_many (reserves_for tx row) ls
      reserved = let so : nat_lt 0 (how_many (reserves_for tx row) ls) ≡ true = sym (any-many (reserves_for tx row) ls) ∙ some in omega (arith, ltb-true 0 (how_many (reserves_for tx row) ls) so)

      at : (f e o k : Bool) → is_some_known slot.filled ≡ f → nat_lt 0 slot.emptied ≡ e → (slot.reserved_for == tx) ≡ o → nat_lt slot.emptied 65535 ≡ k
          → (not f && (e && (o || not k))) ≡ false → some_has (fills row) ls ≡ true
      at true e o k fe ee oe ke h = has-some (fills row) (filled-some fe)
      at false false o k fe ee oe ke h =
          absurd (omega (arith, ltb-false 0 slot.emptied ee, is.emptied (omega (arith, ltb-false 0 slot.emptied ee)), reserving tx, reserved))
      at false true true k fe ee oe ke h = absurd (cc)
      at false true false false fe ee oe ke h = absurd (cc)
      at false true false true fe ee oe ke h =
          let few : slot.emptied < 65535 = ltb-true slot.emptied 65535 ke in
          absurd (omega (arith, is.emptied few, is.of_one few, reserving slot.reserved_for, reserved, many-le (reserves_for tx row) (for_other slot.reserved_for row) (not-its tx slot.reserved_for (λ e. eqb-false slot.reserved_for tx oe (sym e)) row) ls))

  blocked : (tx : ℕ) → 1 ≤ how_many (fills row) ls + how_many (for_other tx row) ls → true ≡ some_has (blocks row tx) ls
  blocked tx some = sym (any-many (blocks row tx) ls ∙ lt-ltb 0 (how_many (blocks row tx) ls) (omega (arith, some, blocking tx)))

  vacant : (tx : ℕ) → how_many (fills row) ls + how_many (for_other tx row) ls ≡ 0 → false ≡ some_has (blocks row tx) ls
  vacant tx none = sym (any-many (blocks row tx) ls ∙ le-ltb 0 (how_many (blocks row tx) ls) (omega (arith, none, blocking tx)))

  pub blocks-told : (tx : ℕ) (b : Bool) → known_blocks tx slot ≡ Some b → b ≡ some_has (blocks row tx) ls
  blocks-told tx b known = at (nat_lt 0 slot.filled) (nat_lt slot.filled 65535) (slot.filled == 0) (nat_lt slot.emptied 65535) (nat_lt 0 slot.emptied) (slot.reserved_for == tx) refl refl refl refl refl refl known
    where
      at : (f fk z ek e o : Bool) → nat_lt 0 slot.filled ≡ f → nat_lt slot.filled 65535 ≡ fk → (slot.filled == 0) ≡ z → nat_lt slot.emptied 65535 ≡ ek → nat_lt 0 slot.emptied ≡ e → (slot.reserved_for == tx) ≡ o
          → (if f && fk then Some true else if z && ek then Some (e && not o) else None) ≡ Some b → b ≡ some_has (blocks row tx) ls
      at f fk z ek e o fe fke ze eke ee oe h = of (f && fk) (z && ek) refl refl h
        where
          of : (p q : Bool) → (f && fk) ≡ p → (z && ek) ≡ q → (if p then Some true else if q then Some (e && not o) else None) ≡ Some b → b ≡ some_has (blocks row tx) ls
          of true q pe qe k =
              let own : true ≡ b = cc in
              let some = and_parts f fk pe in
              sym own ∙ blocked tx (omega (arith, ltb-true 0 slot.filled (fe ∙ some.0), is.filled (ltb-true slot.filled 65535 (fke ∙ some.1))))
          of false false pe qe k = absurd (cc)
          of false true pe qe k =
              let own : (e && not o) ≡ b = cc in
              let some = and_parts z ek qe in
              let none : slot.filled ≡ 0 = eqb-true slot.filled 0 (ze ∙ some.0) in
              let so : how_many (fills row) ls ≡ 0 = omega (arith, none, is.filled (omega (arith, none))) in
              let few : slot.emptied < 65535 = ltb-true slot.emptied 65535 (eke ∙ some.1) in
              sym own ∙ empty so few e o ee oe
            where
              empty : how_many (fills row) ls ≡ 0 → slot.emptied < 65535 → (e o : Bool) → nat_lt 0 slot.emptied ≡ e → (slot.reserved_for == tx) ≡ o → (e && not o) ≡ some_has (blocks row tx) ls
              empty so few true false ee oe =
                  blocked tx (omega (arith, ltb-true 0 slot.emptied ee, is.of_one few, many-le (reserves_for slot.reserved_for row) (for_other tx row) (not-its slot.reserved_for tx (eqb-false slot.reserved_for tx oe) row) ls))
              empty so few true true ee oe =
                  vacant tx (omega (arith, so, is.of_one few, is.emptied few, ap (λ t. how_many (reserves_for t row) ls) (eqb-true slot.reserved_for tx oe), reserving tx))
              empty so few false o ee oe = vacant tx (omega (arith, so, ltb-false 0 slot.emptied ee, is.emptied few, reserving tx))

-- what is told of all keys' entries is so of some key's
module _ {numbers : Numbers} {ls : List Keyed} {marks : List ℕ} (is : IsIndexed numbers ls marks) (row : ℕ) where
  pub taken-seen : some_has (has_row row) ls ≡ true → IsTaken (λ t k. entries_under ls (number_of numbers t k)) row
  taken-seen so = let f = any-seen is (has_row row) so in record { table = f.0; key = f.1; by = f.2 }

  pub left-seen : (slot : Slot) → IsCounted slot row (λ p. how_many p ls) → (tx : ℕ) → may_be_left tx slot ≡ false → IsReserved (λ t k. entries_under ls (number_of numbers t k)) row tx → IsFilled (λ t k. entries_under ls (number_of numbers t k)) row
  left-seen slot counted tx known r =
      let f = any-seen is (fills row) (left-told slot row ls counted tx known (seen-any ls (reserves_for tx row) _ r.by)) in
      record { table = f.0; key = f.1; by = f.2 }

  pub blocked-seen : (tx : ℕ) (b : Bool) → b ≡ some_has (blocks row tx) ls → IsTrue b ↔ IsBlocked (λ t k. entries_under ls (number_of numbers t k)) row tx
  blocked-seen tx b so = (
    λ t. let f = any-seen is (blocks row tx) (sym so ∙ t) in record { table = f.0; key = f.1; by = f.2 },
    λ f. so ∙ seen-any ls (blocks row tx) _ f.by,
  )
