-- Lists in order, where items may stand there more than once.
use Rattle.std.specs.Prelude.{◌≡◌, Bool, true, false, List, [], ◌∷◌, ◌++◌}
use Rattle.std.specs.Ordering.{is_lt}
use Rattle.std.specs.Coded.{×_prop, Unit-prop, Coded-set, coded_bool}
use Rattle.std.specs.declared.cmp.Ordering.{Ordering}

module _ {K : Type 0} where
  -- one item is less than another
  abbrev pub less : (K → K → Ordering) → K → K → Bool
  less cmp x y = is_lt (cmp x y)

  -- each item has P
  abbrev pub Each : (K → Type 0) → List K → Type 0
  Each P [] = Unit {0}
  Each P (x ∷ xs) = P x × Each P xs

  -- each item is less than a bound; no item is
  abbrev pub AreBelow : (K → K → Ordering) → K → List K → Type 0
  AreBelow cmp bound xs = Each (λ x. less cmp x bound ≡ true) xs

  abbrev pub AreFrom : (K → K → Ordering) → K → List K → Type 0
  AreFrom cmp bound xs = Each (λ x. less cmp x bound ≡ false) xs

  -- no item is less than one before it
  abbrev pub IsOrdered : (K → K → Ordering) → List K → Type 0
  IsOrdered cmp [] = Unit {0}
  IsOrdered cmp (x ∷ xs) = AreFrom cmp x xs × IsOrdered cmp xs

  -- an item was put in its place: before those that are not less
  pub record IsPut (cmp : K → K → Ordering) (was now : List K) (item : K) : Type 0 where
    pub before : List K
    pub behind : List K
    pub old : was ≡ before ++ behind
    pub new : now ≡ before ++ item ∷ behind
    pub low : AreBelow cmp item before
    pub high : AreFrom cmp item behind

  -- an item was taken out that is neither less nor greater than one
  pub record IsTaken (cmp : K → K → Ordering) (was now : List K) (one item : K) : Type 0 where
    pub before : List K
    pub behind : List K
    pub old : was ≡ before ++ item ∷ behind
    pub new : now ≡ before ++ behind
    pub not_less : less cmp item one ≡ false
    pub not_greater : less cmp one item ≡ false

  -- each item is less than one or greater, so that there was none to take
  abbrev pub HasNone : (K → K → Ordering) → List K → K → Type 0
  HasNone cmp xs one = Each (λ x. less cmp x one ≡ false → less cmp one x ≡ true) xs

  -- the first item that is not less than a bound
  pub record IsFirstFrom (cmp : K → K → Ordering) (xs : List K) (bound item : K) : Type 0 where
    pub before : List K
    pub behind : List K
    pub is : xs ≡ before ++ item ∷ behind
    pub low : AreBelow cmp bound before
    pub high : less cmp item bound ≡ false

  -- such a fact has one proof
  each-prop : (P : K → Type 0) (xs : List K) → ((x : K) → IsProp (P x)) → IsProp (Each P xs)
  each-prop P [] one = Unit-prop
  each-prop P (x ∷ xs) one = ×_prop (one x) (each-prop P xs one)

  pub ordered-prop : (cmp : K → K → Ordering) (xs : List K) → IsProp (IsOrdered cmp xs)
  ordered-prop cmp [] = Unit-prop
  ordered-prop cmp (x ∷ xs) = ×_prop (each-prop _ xs (λ y. Coded-set coded_bool (less cmp y x) false)) (ordered-prop cmp xs)
