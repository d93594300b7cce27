-- Lists of entries without rows where one comes or goes.
use Rattle.std.proofs.Common.{◌≡◌, ℕ, zero, suc, ◌+◌, Bool, true, false, cond, List, [], ◌∷◌, ◌++◌, Option, Some, None, length, length-append, arith, refl, ap, sym, ◌∙◌, subst}
use Rattle.std.specs.List.{count_by}
use Rattle.std.specs.Option.{MatchOption, is_some}
use Rattle.std.specs.Bool.{IsTrue}
use Rattle.std.specs.Ordering.{is_eq, eq_by_cmp}
use Rattle.std.specs.declared.cmp.Ordering.{Ordering}
use Rattle.std.specs.declared.cmp.Ordering.TheVariants.{Less, Equal, Greater}
use Rattle.std.specs.Cmp.{Equal-is}
use Rattle.std.proofs.lemmas.Bool.{false≢true}
use Rattle.std.proofs.lemmas.Cmp.{tied_itself}
use Rattle.std.proofs.lemmas.List.Sums.{sum_by-append}
use Rattle.table_space.specs.declared.emptied.EmptyEntry.{EmptyEntry}
use Rattle.table_space.specs.Emptied.{empty_cmp, Stands, HasOneMore}
use Rattle.table_space.specs.Ordered.{less, Each, AreBelow, IsOrdered, IsPut, IsTaken, HasNone, IsFirstFrom}
use Rattle.table_space.proofs.Ordered.{settled, each-append, each-left, each-right, each-weaker, ordered-from}
use Rattle.table_space.proofs.EmptyOrder.{empty_total, empty-same, neither-less, not-less-itself}

-- what holds of each entry holds of one that stands there, of each of one more, and of one less
pub at-stands : (P : EmptyEntry → Type 0) (xs : List EmptyEntry) (e : EmptyEntry) → Stands xs e → Each P xs → P e
at-stands P xs e s a = (each-right P s.before (e ∷ s.behind) (subst (Each P) s.is a)).0

pub each-more : (P : EmptyEntry → Type 0) (xs ys : List EmptyEntry) (e : EmptyEntry) → HasOneMore xs ys e → Each P xs → P e → Each P ys
each-more P xs ys e h a p =
    let b = subst (Each P) h.old a in
    subst (Each P) (sym h.new) (each-append P h.before (e ∷ h.behind) (each-left P h.before h.behind b) (p, each-right P h.before h.behind b))

pub each-fewer : (P : EmptyEntry → Type 0) (xs ys : List EmptyEntry) (e : EmptyEntry) → HasOneMore xs ys e → Each P ys → Each P xs
each-fewer P xs ys e h a =
    let b = subst (Each P) h.new a in
    subst (Each P) (sym h.old) (each-append P h.before h.behind (each-left P h.before (e ∷ h.behind) b) (each-right P h.before (e ∷ h.behind) b).1)

-- an entry that is put in is one more
pub put-more : (xs ys : List EmptyEntry) (e : EmptyEntry) → IsPut empty_cmp xs ys e → HasOneMore xs ys e
put-more xs ys e h = record { before = h.before; behind = h.behind; old = h.old; new = h.new }

pub more-longer : (xs ys : List EmptyEntry) (e : EmptyEntry) → HasOneMore xs ys e → length ys ≡ length xs + 1
more-longer xs ys e h = omega (arith, ap length h.old, ap length h.new, length-append h.before h.behind, length-append h.before (e ∷ h.behind))

-- how many of one more pass a test
pub more-count : (p : EmptyEntry → Bool) (xs ys : List EmptyEntry) (e : EmptyEntry) → HasOneMore xs ys e → count_by p ys ≡ count_by p xs + cond (p e) 1 0
more-count p xs ys e h =
    let f : EmptyEntry → ℕ = λ x. cond (p x) 1 0 in
    let a = sum_by-append f h.before h.behind in
    let b = sum_by-append f h.before (e ∷ h.behind) in
    let c = sum_by-append f (e ∷ []) h.behind in
    omega (arith, a, b, c, ap (count_by p) h.old, ap (count_by p) h.new)

pub none-stands : (xs : List EmptyEntry) (e : EmptyEntry) → HasNone empty_cmp xs e → Stands xs e → ⊥
none-stands xs e h s = not-less-itself e (settled (less empty_cmp e e) (at-stands _ xs e s h))

pub below-stands : (xs : List EmptyEntry) (e : EmptyEntry) → AreBelow empty_cmp e xs → Stands xs e → ⊥
below-stands xs e h s = not-less-itself e (at-stands _ xs e s h)

-- the first entry that is not less than one that is there is that one
pub first-is : (xs : List EmptyEntry) (e x : EmptyEntry) → IsOrdered empty_cmp xs → IsFirstFrom empty_cmp xs e x → Stands xs e → x ≡ e
first-is xs e x o h s =
    let P : EmptyEntry → Type 0 = λ y. y ≡ e → x ≡ e in
    let low : Each P h.before = each-weaker _ P h.before (λ y l i. absurd (not-less-itself e (subst (λ z. less empty_cmp z e ≡ true) i l))) h.low in
    let high : Each P h.behind = each-weaker _ P h.behind (λ y l i. neither-less x e h.high (subst (λ z. less empty_cmp z x ≡ false) i l)) (ordered-from empty_cmp h.before h.behind x (subst (IsOrdered empty_cmp) h.is o)) in
    at-stands P xs e s (subst (Each P) (sym h.is) (each-append P h.before (x ∷ h.behind) low ((λ i. i), high))) refl

-- an entry that was there is taken out
pub taken-fewer : (o : Option EmptyEntry) (xs ys : List EmptyEntry) (e : EmptyEntry) → MatchOption o (HasNone empty_cmp xs e × (ys ≡ xs)) (IsTaken empty_cmp xs ys e) → Stands xs e → HasOneMore ys xs e
taken-fewer None xs ys e h s = absurd (none-stands xs e h.0 s)
taken-fewer (Some x) xs ys e h s =
    record { before = h.before; behind = h.behind; old = h.new; new = h.old ∙ ap (λ z. h.before ++ z ∷ h.behind) (neither-less x e h.not_less h.not_greater) }

-- what a look-up tells of an entry
pub has-none : (xs : List EmptyEntry) (e : EmptyEntry) → AreBelow empty_cmp e xs → (IsTrue false → Stands xs e) × (Stands xs e → IsTrue false)
has-none xs e h = ((λ i. absurd (false≢true i)), (λ s. absurd (below-stands xs e h s)))

pub has-some : (xs : List EmptyEntry) (e x : EmptyEntry) (r : Bool) → IsOrdered empty_cmp xs → IsFirstFrom empty_cmp xs e x → r ≡ eq_by_cmp empty_cmp x e → (IsTrue r → Stands xs e) × (Stands xs e → IsTrue r)
has-some xs e x r o h k =
    ((λ i. let same = empty-same x e ((Equal-is (empty_cmp x e)).0 (sym k ∙ i)) in record { before = h.before; behind = h.behind; is = h.is ∙ ap (λ z. h.before ++ z ∷ h.behind) same }), (λ s. let same = first-is xs e x o h s in k ∙ (ap (λ z. eq_by_cmp empty_cmp z e) same ∙ ap is_eq (tied_itself empty_total e))))

-- and its node is spare
pub taken-spare : (o : Option EmptyEntry) (xs ys : List EmptyEntry) (e : EmptyEntry) (was now : List EmptyEntry) → MatchOption o (HasNone empty_cmp xs e × (ys ≡ xs)) (IsTaken empty_cmp xs ys e) → MatchOption o (now ≡ was) (λ _. length now ≡ length was + 1) → Stands xs e → length now ≡ length was + 1
taken-spare None xs ys e was now h k s = absurd (none-stands xs e h.0 s)
taken-spare (Some x) xs ys e was now h k s = k

-- where one of the same key comes for one that goes, as many pass a test of the key
pub exchanged-count : (p : EmptyEntry → Bool) (xs ys zs : List EmptyEntry) (e f : EmptyEntry) → HasOneMore ys xs e → HasOneMore ys zs f → p f ≡ p e → count_by p zs ≡ count_by p xs
exchanged-count p xs ys zs e f went came same = omega (arith, more-count p ys xs e went, more-count p ys zs f came, ap (λ (b : Bool). cond b (suc zero) zero) same)

pub not-taken : (o : Option EmptyEntry) (xs ys : List EmptyEntry) (e : EmptyEntry) → MatchOption o (HasNone empty_cmp xs e × (ys ≡ xs)) (IsTaken empty_cmp xs ys e) → Stands xs e → is_some o ≡ false → ⊥
not-taken None xs ys e h s n = none-stands xs e h.0 s
not-taken (Some x) xs ys e h s n = false≢true (sym n)
