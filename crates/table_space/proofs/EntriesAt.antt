-- The entries of a transaction with a row id, among all.
use Rattle.std.proofs.Common.{◌≡◌, ℕ, zero, suc, ◌+◌, ◌==◌, ◌&&◌, Bool, true, false, cond, Option, Some, None, List, [], ◌∷◌, ◌++◌, refl, ap, sym, ◌∙◌, subst, arith, length}
use Rattle.std.specs.Prelude.{nat_eq}
use Rattle.std.specs.Option.{option_cmp, option_eq}
use Rattle.std.specs.List.{count_by}
use Rattle.std.specs.Ordering.{nat_cmp, is_lt, is_eq, ordering_then}
use Rattle.std.specs.declared.cmp.Ordering.{Ordering}
use Rattle.std.specs.declared.cmp.Ordering.TheVariants.{Less, Equal, Greater}
use Rattle.std.proofs.lemmas.Bool.{false≢true}
use Rattle.std.proofs.lemmas.Bool.Decides.{nat_tests}
use Rattle.std.proofs.lemmas.List.Sums.{sum_by-append}
use Rattle.table_space.specs.declared.emptied.EmptyEntry.{EmptyEntry}
use Rattle.table_space.specs.Emptied.{first, least_key, is_at, empty_cmp, IsWhole}
use Rattle.table_space.specs.Numbers.{key_cmp}
use Rattle.table_space.specs.Ordered.{less, Each, AreBelow, IsOrdered, IsFirstFrom}
use Rattle.table_space.proofs.Ordered.{each-append, each-left, each-right, each-weaker, ordered-from, up_to-up_to}
use Rattle.table_space.proofs.EmptyOrder.{empty_total}
use Rattle.table_space.proofs.TransactionBounds.{each-both, tail-not-less}

abbrev pub one : Bool → ℕ
one b = cond b (suc zero) zero

nats-told : (x y : ℕ) (o : Ordering) → nat_cmp x y ≡ o → (x == y) ≡ is_eq o
nats-told x y Less h = grind (arith, h, nat_tests)
nats-told x y Equal h = grind (arith, h, nat_tests)
nats-told x y Greater h = grind (arith, h, nat_tests)

options-told : (x y : Option ℕ) → option_eq nat_eq x y ≡ is_eq (option_cmp nat_cmp x y)
options-told None None = refl
options-told None (Some y) = refl
options-told (Some x) None = refl
options-told (Some x) (Some y) = nats-told x y (nat_cmp x y) refl

-- a row id is below the next number where it is below this one or is this one
row-step : (x r : ℕ) → one (is_lt (nat_cmp x (r + 1))) ≡ one (is_lt (nat_cmp x r)) + one (x == r)
row-step x r = grind (arith, nat_tests)

then-step : (a b c d : Ordering) (q : Bool) → one (is_lt d) ≡ one (is_lt c) + one q → one (is_lt (ordering_then a (ordering_then b d))) ≡ one (is_lt (ordering_then a (ordering_then b c))) + one (is_eq a && (is_eq b && q))
then-step Less b c d q h = refl
then-step Equal Less c d q h = refl
then-step Equal Equal c d q h = h
then-step Equal Greater c d q h = refl
then-step Greater b c d q h = refl

-- what stands behind and is not less changes nothing
then-tail : (a b c t : Ordering) → is_lt t ≡ false → is_lt (ordering_then a (ordering_then b (ordering_then c t))) ≡ is_lt (ordering_then a (ordering_then b c))
then-tail Less b c t h = refl
then-tail Equal Less c t h = refl
then-tail Equal Equal Less t h = refl
then-tail Equal Equal Equal t h = h
then-tail Equal Equal Greater t h = refl
then-tail Equal Greater c t h = refl
then-tail Greater b c t h = refl

module _ (tx : ℕ) (v : Option ℕ) (row : ℕ) where
  -- an entry is below the next row id where it is below this one or has it
  pub at-step : (e : EmptyEntry) → IsWhole e → one (less empty_cmp e (first tx v (row + 1))) ≡ one (less empty_cmp e (first tx v row)) + one (is_at tx v row e)
  at-step e w =
      let a = nat_cmp e.tx tx in
      let b = option_cmp nat_cmp e.vacant_in v in
      let t = tail-not-less e w.0 in
      let low : less empty_cmp e (first tx v row) ≡ is_lt (ordering_then a (ordering_then b (nat_cmp e.row row))) = then-tail a b (nat_cmp e.row row) _ t in
      let high : less empty_cmp e (first tx v (row + 1)) ≡ is_lt (ordering_then a (ordering_then b (nat_cmp e.row (row + 1)))) = then-tail a b (nat_cmp e.row (row + 1)) _ t in
      let at : is_at tx v row e ≡ (is_eq a && (is_eq b && (e.row == row))) = λ i. nats-told e.tx tx a refl i && (options-told e.vacant_in v i && (e.row == row)) in
      let step = then-step a b (nat_cmp e.row row) (nat_cmp e.row (row + 1)) (e.row == row) (row-step e.row row) in
      omega (arith, ap one low, ap one high, ap one at, step)

  one-most : (b : Bool) → one b ≡ 0 → b ≡ false
  one-most true h = absurd (omega (arith, h))
  one-most false h = refl

  one-few : (b : Bool) → one b + 0 ≡ one b
  one-few b = omega arith

  pub below-not-at : (e : EmptyEntry) → less empty_cmp e (first tx v row) ≡ true → IsWhole e → is_at tx v row e ≡ false
  below-not-at e l w = one-most (is_at tx v row e) (few (less empty_cmp e (first tx v (row + 1))) (at-step e w) (ap one l))
    where
      few : (b : Bool) {m n : ℕ} → one b ≡ m + n → m ≡ 1 → n ≡ 0
      few true h k = omega (arith, h, k)
      few false h k = omega (arith, h, k)

  -- and no entry that is not less than one behind has it
  above-not-at : (e : EmptyEntry) → less empty_cmp e (first tx v (row + 1)) ≡ false → IsWhole e → is_at tx v row e ≡ false
  above-not-at e l w = one-most (is_at tx v row e) (omega (arith, at-step e w, ap one l))

  pub none-at : (xs : List EmptyEntry) → AreBelow empty_cmp (first tx v row) xs → Each IsWhole xs → Each (λ e. is_at tx v row e ≡ false) xs
  none-at xs a w = each-both _ IsWhole _ xs below-not-at a w

  -- where the first entry from the least on does not have it, none has
  pub none-at-first : (xs : List EmptyEntry) (e : EmptyEntry) → IsOrdered empty_cmp xs → Each IsWhole xs → IsFirstFrom empty_cmp xs (first tx v row) e → is_at tx v row e ≡ false → Each (λ e. is_at tx v row e ≡ false) xs
  none-at-first xs e o w h n =
      let ws = subst (Each IsWhole) h.is w in
      let we = (each-right IsWhole h.before (e ∷ h.behind) ws).0 in
      let wb = (each-right IsWhole h.before (e ∷ h.behind) ws).1 in
      let past : less empty_cmp e (first tx v (row + 1)) ≡ false = one-most _ (omega (arith, at-step e we, ap one h.high, ap one n)) in
      let low = none-at h.before h.low (each-left IsWhole h.before (e ∷ h.behind) ws) in
      let high = each-both _ IsWhole (λ y. is_at tx v row y ≡ false) h.behind (λ y l k. above-not-at y (up_to-up_to empty_total (first tx v (row + 1)) e y past l) k) (ordered-from empty_cmp h.before h.behind e (subst (IsOrdered empty_cmp) h.is o)) wb in
      subst (Each (λ e. is_at tx v row e ≡ false)) (sym h.is) (each-append _ h.before (e ∷ h.behind) low (n, high))

  -- how many have it
  pub count-at : (xs : List EmptyEntry) → Each IsWhole xs → count_by (λ x. less empty_cmp x (first tx v (row + 1))) xs ≡ count_by (λ x. less empty_cmp x (first tx v row)) xs + count_by (is_at tx v row) xs
  count-at [] w = refl
  count-at (x ∷ xs) w =
      let a = sum_by-append (λ y. one (less empty_cmp y (first tx v (row + 1)))) (x ∷ []) xs in
      let b = sum_by-append (λ y. one (less empty_cmp y (first tx v row))) (x ∷ []) xs in
      let d = sum_by-append (λ y. one (is_at tx v row y)) (x ∷ []) xs in
      omega (arith, a, b, d, at-step x w.0, count-at xs w.1)
