-- The least entry that a transaction may have.
use Rattle.std.proofs.Common.{◌≡◌, ◌≢◌, Option, Some, None, ℕ, zero, suc, ◌≤◌, ◌<◌, Bool, true, false, List, [], ◌∷◌, ◌++◌, length, replicate, refl, ap, sym, ◌∙◌, subst, inl, inr, ⊎_elim, ◌⊎◌, arith}
use Rattle.std.specs.Option.{option_cmp}
use Rattle.std.specs.Ordering.{nat_cmp, is_lt, ordering_then}
use Rattle.std.specs.Cmp.Lexicographic.{slice_cmp}
use Rattle.std.specs.declared.cmp.Ordering.{Ordering}
use Rattle.std.specs.declared.cmp.Ordering.TheVariants.{Less, Equal, Greater}
use Rattle.std.proofs.lemmas.Bool.{false≢true}
use Rattle.std.proofs.lemmas.Bool.Decides.{nat_tests}
use Rattle.std.proofs.lemmas.Cmp.{ranked, by_ranked}
use Rattle.table_space.specs.declared.emptied.EmptyEntry.{EmptyEntry}
use Rattle.table_space.specs.Emptied.{first, least_key, empty_cmp, IsWhole, IsNextTx}
use Rattle.table_space.specs.Numbers.{key_cmp}
use Rattle.table_space.specs.Ordered.{less, Each, AreBelow, IsOrdered, IsFirstFrom}
use Rattle.table_space.proofs.Ordered.{each-append, each-left, each-weaker, ordered-from}

pub each-both : (P Q R : EmptyEntry → Type 0) (xs : List EmptyEntry) → ((x : EmptyEntry) → P x → Q x → R x) → Each P xs → Each Q xs → Each R xs
each-both P Q R [] f a b = tt
each-both P Q R (x ∷ xs) f a b = (f x a.0 b.0, each-both P Q R xs f a.1 b.1)

zero-least : (n : ℕ) → is_lt (nat_cmp n 0) ≡ false
zero-least n = grind (arith, nat_tests)

then-not-less : (a b : Ordering) → is_lt a ≡ false → is_lt b ≡ false → is_lt (ordering_then a b) ≡ false
then-not-less Less b p q = absurd (false≢true (sym p))
then-not-less Equal b p q = q
then-not-less Greater b p q = refl

zeros-least : (xs : List ℕ) (n : ℕ) → length xs ≡ n → is_lt (slice_cmp nat_cmp xs (replicate n 0)) ≡ false
zeros-least [] zero e = refl
zeros-least [] (suc n) e = absurd (omega (arith, e))
zeros-least (x ∷ xs) zero e = refl
zeros-least (x ∷ xs) (suc n) e = then-not-less (nat_cmp x 0) _ (zero-least x) (zeros-least xs n (omega (arith, e)))

none-first : (o : Option ℕ) → is_lt (option_cmp nat_cmp o None) ≡ false
none-first None = refl
none-first (Some n) = refl

-- what stands behind the row id is not less than the least
pub tail-not-less : (d : EmptyEntry) → length d.key.bytes ≡ 32 → is_lt (ordering_then (nat_cmp d.table 0) (key_cmp d.key least_key)) ≡ false
tail-not-less d e = then-not-less _ _ (zero-least d.table) (then-not-less (nat_cmp d.key.size 0) _ (zero-least d.key.size) (zeros-least d.key.bytes 32 e))

rest-not-less : (d : EmptyEntry) → length d.key.bytes ≡ 32 → is_lt (ordering_then (option_cmp nat_cmp d.vacant_in None) (ordering_then (nat_cmp d.row 0) (ordering_then (nat_cmp d.table 0) (key_cmp d.key least_key)))) ≡ false
rest-not-less d e =
    then-not-less
    _
    _
    (none-first d.vacant_in)
    (then-not-less _ _ (zero-least d.row) (tail-not-less d e))

by-tx : (a b : ℕ) (r : Ordering) → is_lt (ordering_then (nat_cmp a b) r) ≡ true → is_lt r ≡ false → a < b
by-tx a b r h l =
    by_ranked
    _
    _
    _
    (nat_cmp a b)
    (ranked a b (nat_cmp a b) refl)
    (λ e p. p)
    (λ e p. absurd (false≢true (sym l ∙ (sym (ap (λ o. is_lt (ordering_then o r)) e) ∙ h))))
    (λ e p. absurd (false≢true (sym (ap (λ o. is_lt (ordering_then o r)) e) ∙ h)))

by-tx-from : (a b : ℕ) (r : Ordering) → is_lt (ordering_then (nat_cmp a b) r) ≡ false → b ≤ a
by-tx-from a b r h =
    by_ranked
    _
    _
    _
    (nat_cmp a b)
    (ranked a b (nat_cmp a b) refl)
    (λ e p. absurd (false≢true (sym h ∙ ap (λ o. is_lt (ordering_then o r)) e)))
    (λ e p. omega (arith, p))
    (λ e p. omega (arith, p))

-- entries before it are of transactions below, and those from one on are of its transaction or later ones
below-bound : (tx : ℕ) (y : EmptyEntry) → less empty_cmp y (first tx None 0) ≡ true → IsWhole y → y.tx < tx
below-bound tx y h w = by-tx y.tx tx _ h (rest-not-less y w.0)

from-entry : (e d : EmptyEntry) → less empty_cmp d e ≡ false → e.tx ≤ d.tx
from-entry e d h = by-tx-from d.tx e.tx _ h

pub none-from : (tx : ℕ) (xs : List EmptyEntry) → AreBelow empty_cmp (first tx None 0) xs → Each IsWhole xs → Each (λ (e : EmptyEntry). e.tx < tx) xs
none-from tx xs a w = each-both _ IsWhole (λ (e : EmptyEntry). e.tx < tx) xs (below-bound tx) a w

pub next-of : (tx : ℕ) (xs : List EmptyEntry) (e : EmptyEntry) → IsOrdered empty_cmp xs → Each IsWhole xs → IsFirstFrom empty_cmp xs (first tx None 0) e → IsNextTx xs tx e.tx
next-of tx xs e o w h =
    let P : EmptyEntry → Type 0 = λ d. (d.tx < tx) ⊎ (e.tx ≤ d.tx) in
    let ws = subst (Each IsWhole) h.is w in
    let low = each-both _ IsWhole P h.before (λ y l v. inl (below-bound tx y l v)) h.low (each-left IsWhole h.before (e ∷ h.behind) ws) in
    let high = each-weaker _ P h.behind (λ y l. inr (from-entry e y l)) (ordered-from empty_cmp h.before h.behind e (subst (IsOrdered empty_cmp) h.is o)) in
    record {
      low = by-tx-from e.tx tx _ h.high;
      one = e;
      stands = record { before = h.before; behind = h.behind; is = h.is };
      its = refl;
      least = subst (Each P) (sym h.is) (each-append P h.before (e ∷ h.behind) low (inr (omega arith), high));
    }

-- a transaction has no entry where all are of ones below, and where the next one is another
pub none-of : (tx : ℕ) (xs : List EmptyEntry) → Each (λ (e : EmptyEntry). e.tx < tx) xs → Each (λ (e : EmptyEntry). e.tx ≢ tx) xs
none-of tx xs h = each-weaker _ (λ (e : EmptyEntry). e.tx ≢ tx) xs (λ y l e. omega (arith, e, l)) h

pub none-of-next : (tx to : ℕ) (xs : List EmptyEntry) → to ≢ tx → IsNextTx xs tx to → Each (λ (e : EmptyEntry). e.tx ≢ tx) xs
none-of-next tx to xs n h = each-weaker _ (λ (e : EmptyEntry). e.tx ≢ tx) xs (λ y c e. ⊎_elim (λ p. omega (arith, p, e)) (λ p. omega (arith, p, e, n, h.low)) c) h.least
