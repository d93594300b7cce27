-- What is kept of the data pages.
use Rattle.std.specs.Prelude.{◌≡◌, ◌≢◌, ℕ, ◌+◌, ◌≤◌, ◌<◌, ◌^◌, Bool, cond, List, [], ◌∷◌, Option, Some, None, length}
use Rattle.std.specs.List.{count_by}
use Rattle.std.specs.Ordering.{nat_cmp, ordering_then}
use Rattle.std.specs.declared.cmp.Ordering.{Ordering}
use Rattle.table_space.specs.Ordered.{IsOrdered}
use Rattle.table_space.specs.Owners.{owner_in}
use Rattle.table_space.specs.declared.pages.Place.{Place}

-- a page of a table
abbrev pub place : ℕ → ℕ → Place
place table page = record { table = table; page = page }

-- the order of places: by table and page
abbrev pub place_cmp : Place → Place → Ordering
place_cmp a b = ordering_then (nat_cmp a.table b.table) (nat_cmp a.page b.page)

-- 1 where a page's place passes a test, and 0 where it does not, or the page has no owner
abbrev pub one_owned : (Place → Bool) → ℕ → Option ℕ → ℕ
one_owned test page None = 0
one_owned test page (Some table) = cond (test (place table page)) 1 0

-- how many pages, numbered from one on, have a place that passes a test
abbrev pub count_owned : (Place → Bool) → ℕ → List (Option ℕ) → ℕ
count_owned test page [] = 0
count_owned test page (o ∷ os) = one_owned test page o + count_owned test (page + 1) os

-- for each test, as many places pass it as pages that have an owner
abbrev pub AreOwned : List (Option ℕ) → List Place → Type 0
AreOwned os places = (test : Place → Bool) → count_by test places ≡ count_owned test 1 os

-- the places are those of the pages that have an owner, with a node for each other page; and the least page without an owner is told
pub record ArePages (os : List (Option ℕ)) (places : List Place) (spare unowned : ℕ) : Type 0 where
  pub few : length os < 2 ^ 24
  pub ordered : IsOrdered place_cmp places
  pub owned : AreOwned os places
  pub nodes : length places + spare ≡ length os
  pub low : 1 ≤ unowned
  pub high : unowned ≤ length os + 1
  pub before : (page : ℕ) → 1 ≤ page → page < unowned → owner_in os page ≢ None
  pub next : unowned ≤ length os → owner_in os unowned ≡ None
