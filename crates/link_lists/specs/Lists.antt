-- The lists as callers see them.
use Rattle.std.specs.Prelude.{◌≡◌, ◌≢◌, ℕ, ◌<◌, ◌==◌, ◌↔◌, Bool, true, false, cond, List, [], ◌∷◌, length, Option, Some, None, not, refl, slice_index_or}
use Rattle.std.specs.List.{filter, list_any}
use Rattle.std.specs.Coded.{Coded, code_by, coded×, coded_ℕ, coded_list, coded_option}

-- the ids of each list, in order, and for each id the list that it is in
pub record Lists : Type 0 where
  pub lists : List (List ℕ)
  pub homes : List (Option ℕ)

abbrev pub lists_code : Coded Lists
lists_code =
    code_by
    (List (List ℕ) × List (Option ℕ))
    (coded× (coded_list (coded_list coded_ℕ)) (coded_list (coded_option coded_ℕ)))
    (λ v. (v.lists, v.homes))
    (λ p. record { lists = p.0; homes = p.1 })
    (λ _. refl)

-- the ids of list l; none where there is no such list
abbrev pub list_at : Lists → ℕ → List ℕ
list_at v l = slice_index_or v.lists l []

-- the list that id x is in; none where it is in no list, or is not there
abbrev pub home_at : Lists → ℕ → Option ℕ
home_at v x = slice_index_or v.homes x None

-- how many lists there are, and how many ids
abbrev pub list_count : Lists → ℕ
list_count v = length v.lists

abbrev pub id_count : Lists → ℕ
id_count v = length v.homes

-- list l has these ids now, and each other list has what it had
pub record ListBecomes (old new : Lists) (l : ℕ) (ids : List ℕ) : Type 0 where
  pub this : list_at new l ≡ ids
  pub others : (k : ℕ) → k ≢ l → list_at new k ≡ list_at old k

-- id x is in this list now, or in none, and each other id is where it was
pub record HomeBecomes (old new : Lists) (x : ℕ) (home : Option ℕ) : Type 0 where
  pub this : home_at new x ≡ home
  pub others : (y : ℕ) → y ≢ x → home_at new y ≡ home_at old y

-- there are as many lists, and as many ids
pub record SameCounts (old new : Lists) : Type 0 where
  pub lists : list_count new ≡ list_count old
  pub ids : id_count new ≡ id_count old

-- each list has what it had
abbrev pub SameLists : Lists → Lists → Type 0
SameLists old new = (k : ℕ) → list_at new k ≡ list_at old k

-- x is among these
abbrev pub has : ℕ → List ℕ → Bool
has x xs = list_any (λ y. y == x) xs

-- none stands twice
abbrev pub Once : List ℕ → Type 0
Once [] = Unit {0}
Once (x ∷ xs) = (has x xs ≡ false) × Once xs

-- x put right before `next`
abbrev pub put_before : ℕ → ℕ → List ℕ → List ℕ
put_before next x [] = []
put_before next x (y ∷ ys) = cond (y == next) (x ∷ y ∷ ys) (y ∷ put_before next x ys)

-- the ids but x, in their order
abbrev pub without : ℕ → List ℕ → List ℕ
without x ids = filter (λ y. not (y == x)) ids

-- the first id
abbrev pub first_of : List ℕ → Option ℕ
first_of [] = None
first_of (x ∷ xs) = Some x

-- the id behind x
abbrev pub behind : ℕ → List ℕ → Option ℕ
behind x [] = None
behind x (y ∷ ys) = cond (y == x) (first_of ys) (behind x ys)

-- an id stands in at most one list, once, and its home is that list
pub record IsSound (v : Lists) : Type 0 where
  pub home : (l x : ℕ) → (home_at v x ≡ Some l) ↔ (has x (list_at v l) ≡ true)
  pub there : (l x : ℕ) → home_at v x ≡ Some l → (l < list_count v) × (x < id_count v)
  pub once : (l : ℕ) → Once (list_at v l)
