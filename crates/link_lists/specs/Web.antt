-- The links of all nodes, by place.
use Rattle.std.specs.Prelude.{◌≡◌, ◌≢◌, ℕ, Option, Some, None, cond, nat_lt}
use Rattle.link_lists.specs.declared.web.Web.{Web}
use Rattle.link_lists.specs.Places.{slot_of, is_place}
use Rattle.link_lists.specs.Nodes.{node_at}

-- the place behind a place
abbrev pub next_of : Web → ℕ → ℕ
next_of w q = cond (is_place w.lists w.ids q) (node_at w.nodes (slot_of w.lists q)).next 0

-- the place before it
abbrev pub prev_of : Web → ℕ → ℕ
prev_of w q = cond (is_place w.lists w.ids q) (node_at w.nodes (slot_of w.lists q)).prev 0

-- the list that an id is in
abbrev pub home_of : Web → ℕ → Option ℕ
home_of w q = cond (nat_lt q w.ids) (node_at w.nodes (slot_of w.lists q)).home None

abbrev pub SameNext : Web → Web → Type 0
SameNext old new = (q : ℕ) → next_of new q ≡ next_of old q

abbrev pub SamePrev : Web → Web → Type 0
SamePrev old new = (q : ℕ) → prev_of new q ≡ prev_of old q

abbrev pub SameHome : Web → Web → Type 0
SameHome old new = (q : ℕ) → home_of new q ≡ home_of old q

abbrev pub SameCounts : Web → Web → Type 0
SameCounts old new = (new.ids ≡ old.ids) × (new.lists ≡ old.lists)

-- `id` stands before `at` now, in this list
pub record IsLinked (old new : Web) (at id list : ℕ) : Type 0 where
  pub counts : SameCounts old new
  pub next_before : next_of new (prev_of old at) ≡ id
  pub next_id : next_of new id ≡ at
  pub next_others : (q : ℕ) → q ≢ prev_of old at → q ≢ id → next_of new q ≡ next_of old q
  pub prev_at : prev_of new at ≡ id
  pub prev_id : prev_of new id ≡ prev_of old at
  pub prev_others : (q : ℕ) → q ≢ at → q ≢ id → prev_of new q ≡ prev_of old q
  pub home_id : home_of new id ≡ Some list
  pub home_others : (q : ℕ) → q ≢ id → home_of new q ≡ home_of old q

-- the places before and behind `id` are neighbours now, and `id` is in no list
pub record IsTakenOut (old new : Web) (id : ℕ) : Type 0 where
  pub counts : SameCounts old new
  pub next_before : next_of new (prev_of old id) ≡ next_of old id
  pub next_others : (q : ℕ) → q ≢ prev_of old id → next_of new q ≡ next_of old q
  pub prev_behind : prev_of new (next_of old id) ≡ prev_of old id
  pub prev_others : (q : ℕ) → q ≢ next_of old id → prev_of new q ≡ prev_of old q
  pub home_id : home_of new id ≡ None
  pub home_others : (q : ℕ) → q ≢ id → home_of new q ≡ home_of old q
