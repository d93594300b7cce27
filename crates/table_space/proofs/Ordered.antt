-- Parts of lists in order.
use Rattle.std.proofs.Common.{◌≡◌, ◌+◌, Bool, true, false, List, [], ◌∷◌, ◌++◌, length, cond, refl, sym, ap, ◌∙◌, append_assoc, Option, Some, None, arith}
use Rattle.std.specs.List.{count_by}
use Rattle.std.specs.Option.{MatchOption}
use Rattle.std.specs.Cmp.{IsTotalOrder}
use Rattle.std.specs.declared.cmp.Ordering.{Ordering}
use Rattle.std.proofs.lemmas.List.Sorted.{ranks_by}
use Rattle.std.proofs.lemmas.Bool.{false≢true}
use Rattle.std.proofs.lemmas.List.Sums.{sum_by-append}
use Rattle.table_space.specs.Ordered.{less, Each, AreFrom, AreBelow, IsOrdered, HasNone, IsFirstFrom}

-- a test is passed, where it can not fail
pub settled : (b : Bool) → (b ≡ false → b ≡ true) → b ≡ true
settled true f = refl
settled false f = f refl

module _ {K : Type 0} where
  pub each-append : (P : K → Type 0) (xs ys : List K) → Each P xs → Each P ys → Each P (xs ++ ys)
  each-append P [] ys a b = b
  each-append P (x ∷ xs) ys a b = (a.0, each-append P xs ys a.1 b)

  pub each-left : (P : K → Type 0) (xs ys : List K) → Each P (xs ++ ys) → Each P xs
  each-left P [] ys a = tt
  each-left P (x ∷ xs) ys a = (a.0, each-left P xs ys a.1)

  pub each-right : (P : K → Type 0) (xs ys : List K) → Each P (xs ++ ys) → Each P ys
  each-right P [] ys a = a
  each-right P (x ∷ xs) ys a = each-right P xs ys a.1

  pub each-weaker : (P Q : K → Type 0) (xs : List K) → ((x : K) → P x → Q x) → Each P xs → Each Q xs
  each-weaker P Q [] f a = tt
  each-weaker P Q (x ∷ xs) f a = (f x a.0, each-weaker P Q xs f a.1)

  -- the parts of a list in order
  pub ordered-left : (cmp : K → K → Ordering) (xs ys : List K) → IsOrdered cmp (xs ++ ys) → IsOrdered cmp xs
  ordered-left cmp [] ys o = tt
  ordered-left cmp (x ∷ xs) ys o = (each-left _ xs ys o.0, ordered-left cmp xs ys o.1)

  pub ordered-right : (cmp : K → K → Ordering) (xs ys : List K) → IsOrdered cmp (xs ++ ys) → IsOrdered cmp ys
  ordered-right cmp [] ys o = o
  ordered-right cmp (x ∷ xs) ys o = ordered-right cmp xs ys o.1

  pub ordered-up_to : (cmp : K → K → Ordering) (xs ys : List K) (x : K) → IsOrdered cmp (xs ++ x ∷ ys) → Each (λ y. less cmp x y ≡ false) xs
  ordered-up_to cmp [] ys x o = tt
  ordered-up_to cmp (y ∷ xs) ys x o = ((each-right _ xs (x ∷ ys) o.0).0, ordered-up_to cmp xs ys x o.1)

  pub ordered-from : (cmp : K → K → Ordering) (xs ys : List K) (x : K) → IsOrdered cmp (xs ++ x ∷ ys) → AreFrom cmp x ys
  ordered-from cmp xs ys x o = (ordered-right cmp xs (x ∷ ys) o).0

  module _ {cmp : K → K → Ordering} (o : IsTotalOrder cmp) where
    -- the order of three items, where one is not greater than another
    pub up_to-up_to : (x y z : K) → less cmp y x ≡ false → less cmp z y ≡ false → less cmp z x ≡ false
    up_to-up_to x y z a b = (ranks_by o (λ (k : K). k)).chain z y x b a

    pub up_to-below : (x y z : K) → less cmp y x ≡ false → less cmp y z ≡ true → less cmp x z ≡ true
    up_to-below x y z a b = settled (less cmp x z) (λ e. absurd (false≢true (sym (up_to-up_to z x y e a) ∙ b)))

    pub below-up_to : (x y z : K) → less cmp x y ≡ true → less cmp z y ≡ false → less cmp x z ≡ true
    below-up_to x y z a b = settled (less cmp x z) (λ e. absurd (false≢true (sym (up_to-up_to y z x b e) ∙ a)))

    pub below-not_above : (x y : K) → less cmp x y ≡ true → less cmp y x ≡ false
    below-not_above x y a = (ranks_by o (λ (k : K). k)).one_way x y a

    -- of a fork, where the item is less than a bound, and where it is not
    pub below-fork : (l r low : List K) (x b : K) → IsOrdered cmp (l ++ x ∷ r) → less cmp x b ≡ true → AreBelow cmp b low → AreBelow cmp b (l ++ x ∷ low)
    below-fork l r low x b d e a =
        each-append _ l (x ∷ low) (each-weaker _ _ l (λ y h. up_to-below y x b h e) (ordered-up_to cmp l r x d)) (e, a)

    pub from-fork : (l r high : List K) (x b : K) → IsOrdered cmp (l ++ x ∷ r) → less cmp x b ≡ false → AreFrom cmp b high → AreFrom cmp b (high ++ x ∷ r)
    from-fork l r high x b d e a =
        each-append _ high (x ∷ r) a (e, each-weaker _ _ r (λ y h. up_to-up_to b x y e h) (ordered-from cmp l r x d))

    -- an item that is put between those that are less and those that are not
    pub ordered-put : (a b : List K) (x : K) → IsOrdered cmp (a ++ b) → AreBelow cmp x a → AreFrom cmp x b → IsOrdered cmp (a ++ x ∷ b)
    ordered-put [] b x o' l h = (h, o')
    ordered-put (y ∷ a) b x o' l h =
        (each-append _ a (x ∷ b) (each-left _ a b o'.0) (below-not_above y x l.0, each-right _ a b o'.0), ordered-put a b x o'.1 l.1 h)

    -- an item that is taken out
    pub ordered-taken : (a b : List K) (x : K) → IsOrdered cmp (a ++ x ∷ b) → IsOrdered cmp (a ++ b)
    ordered-taken [] b x d = d.1
    ordered-taken (y ∷ a) b x d = (each-append _ a b (each-left _ a (x ∷ b) d.0) (each-right _ a (x ∷ b) d.0).1, ordered-taken a b x d.1)

    -- how many are less than a bound
    pub count-below : (xs : List K) (b : K) → AreBelow cmp b xs → count_by (λ y. less cmp y b) xs ≡ length xs
    count-below [] b a = refl
    count-below (x ∷ xs) b a =
        let e = sum_by-append (λ y. cond (less cmp y b) 1 0) (x ∷ []) xs in
        let n : count_by (λ y. less cmp y b) (x ∷ xs) ≡ 1 + count_by (λ y. less cmp y b) xs = e ∙ rw a.0 refl in
        omega (arith, n, count-below xs b a.1)

    pub count-from : (xs : List K) (b : K) → AreFrom cmp b xs → count_by (λ y. less cmp y b) xs ≡ 0
    count-from [] b a = refl
    count-from (x ∷ xs) b a =
        let e = sum_by-append (λ y. cond (less cmp y b) 1 0) (x ∷ []) xs in
        let n : count_by (λ y. less cmp y b) (x ∷ xs) ≡ 0 + count_by (λ y. less cmp y b) xs = e ∙ rw a.0 refl in
        omega (arith, n, count-from xs b a.1)

    -- where all are less, none is to be taken; nor where the first that is not less is greater
    pub none-below : (xs : List K) (b : K) → AreBelow cmp b xs → HasNone cmp xs b
    none-below xs b a = each-weaker _ _ xs (λ x h e. absurd (false≢true (sym e ∙ h))) a

    pub none-split : (a c : List K) (x b : K) → IsOrdered cmp (a ++ x ∷ c) → AreBelow cmp b a → less cmp b x ≡ true → HasNone cmp (a ++ x ∷ c) b
    none-split a c x b d l h =
        each-append _ a (x ∷ c) (none-below a b l) ((λ _. h), each-weaker _ _ c (λ y k e. below-up_to b x y h k) (ordered-from cmp a c x d))

    -- a count, and the first item from a bound on, of a fork
    count-append : (xs ys : List K) (b : K) → count_by (λ y. less cmp y b) (xs ++ ys) ≡ count_by (λ y. less cmp y b) xs + count_by (λ y. less cmp y b) ys
    count-append xs ys b = sum_by-append (λ y. cond (less cmp y b) 1 0) xs ys

    pub count-fork-low : (l r : List K) (x b : K) → IsOrdered cmp (l ++ x ∷ r) → less cmp x b ≡ true → count_by (λ y. less cmp y b) (l ++ x ∷ r) ≡ length l + 1 + count_by (λ y. less cmp y b) r
    count-fork-low l r x b d e =
        let all = count-append l (x ∷ r) b in
        let one = count-append (x ∷ []) r b in
        let is : count_by (λ y. less cmp y b) (x ∷ []) ≡ 1 = rw e refl in
        let low = count-below l b (each-weaker _ _ l (λ y h. up_to-below y x b h e) (ordered-up_to cmp l r x d)) in
        omega (arith, all, one, is, low)

    pub count-fork-high : (l r : List K) (x b : K) → IsOrdered cmp (l ++ x ∷ r) → less cmp x b ≡ false → count_by (λ y. less cmp y b) (l ++ x ∷ r) ≡ count_by (λ y. less cmp y b) l
    count-fork-high l r x b d e =
        let all = count-append l (x ∷ r) b in
        let high = count-from (x ∷ r) b (e, each-weaker _ _ r (λ y h. up_to-up_to b x y e h) (ordered-from cmp l r x d)) in
        omega (arith, all, high)

    pub first-right : (l r : List K) (x b : K) (o : Option K) → IsOrdered cmp (l ++ x ∷ r) → less cmp x b ≡ true → MatchOption o (AreBelow cmp b r) (IsFirstFrom cmp r b) → MatchOption o (AreBelow cmp b (l ++ x ∷ r)) (IsFirstFrom cmp (l ++ x ∷ r) b)
    first-right l r x b None d e h = below-fork l r r x b d e h
    first-right l r x b (Some y) d e h =
        record {
          before = l ++ x ∷ h.before;
          behind = h.behind;
          is = ap (λ z. l ++ x ∷ z) h.is ∙ sym (append_assoc l (x ∷ h.before) (y ∷ h.behind));
          low = below-fork l r h.before x b d e h.low;
          high = h.high;
        }

    pub first-left : (l r : List K) (x b : K) (y : K) → less cmp x b ≡ false → IsFirstFrom cmp l b y → IsFirstFrom cmp (l ++ x ∷ r) b y
    first-left l r x b y e h =
        record {
          before = h.before;
          behind = h.behind ++ x ∷ r;
          is = ap (λ z. z ++ x ∷ r) h.is ∙ append_assoc h.before (y ∷ h.behind) (x ∷ r);
          low = h.low;
          high = h.high;
        }
