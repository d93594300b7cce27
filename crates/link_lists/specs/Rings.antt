-- Each list is a ring of links from its head through its ids and back.
use Rattle.std.specs.Prelude.{◌≡◌, ℕ, zero, suc, ◌<◌, ◌≤◌, true, cond, nat_lt, List, [], ◌∷◌, Some}
use Rattle.link_lists.specs.declared.web.Web.{Web}
use Rattle.link_lists.specs.Places.{head_place}
use Rattle.link_lists.specs.Web.{next_of, prev_of, home_of}
use Rattle.link_lists.specs.Lists.{Lists, has, Once}

-- the first n values of f
abbrev pub made : {X : Type 0} → ℕ → (ℕ → X) → List X
made zero f = []
made (suc n) f = f 0 ∷ made n (λ k. f (suc k))

-- the ids from this place on, up to a head, at most n
abbrev pub walk : (ℕ → ℕ) → ℕ → ℕ → List ℕ
walk next zero place = []
walk next (suc n) place = cond (nat_lt place 2147483648) (place ∷ walk next n (next place)) []

abbrev pub lists_of : Web → ℕ → List ℕ
lists_of w l = cond (nat_lt l w.lists) (walk (next_of w) w.ids (next_of w (head_place l))) []

abbrev pub seen : Web → Lists
seen w = record { lists = made w.lists (lists_of w); homes = made w.ids (home_of w) }

-- the links go from a through these to b, and back
abbrev pub Chain : (ℕ → ℕ) → (ℕ → ℕ) → ℕ → List ℕ → ℕ → Type 0
Chain next prev a [] b = (next a ≡ b) × (prev b ≡ a)
Chain next prev a (x ∷ xs) b = (next a ≡ x) × (prev x ≡ a) × Chain next prev x xs b

-- the nodes are linked to these lists
pub record Linked (w : Web) (L : ℕ → List ℕ) : Type 0 where
  pub ring : (l : ℕ) → l < w.lists → Chain (next_of w) (prev_of w) (head_place l) (L l) (head_place l)
  pub once : (l : ℕ) → Once (L l)
  pub home : (l x : ℕ) → has x (L l) ≡ true → (home_of w x ≡ Some l) × (x < w.ids) × (l < w.lists)
  pub inside : (l x : ℕ) → home_of w x ≡ Some l → has x (L l) ≡ true
  pub few_ids : w.ids ≤ 2147483648
  pub few_lists : w.lists ≤ 2147483648

abbrev pub IsLinkedWell : Web → Type 0
IsLinkedWell w = Linked w (lists_of w)
