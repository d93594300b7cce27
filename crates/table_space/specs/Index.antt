-- The row of each key, and the entries without rows.
use Rattle.std.specs.Prelude.{◌≡◌, ℕ, ◌+◌, ◌≤◌, ◌<◌, ◌^◌, ◌==◌, cond, List, map, Option, Some, None, length}
use Rattle.std.specs.List.{count_by, sum_by}
use Rattle.std.specs.BTreeMap as tree
use Rattle.std.specs.BTreeMap.{BTreeMap, is_at}
use Rattle.std.specs.Map.{lookup}
use Rattle.std.specs.Option.{option_map, unwrap_or}
use Rattle.ids_base.specs.declared.lock.Key.{Key}
use Rattle.table_space.specs.declared.emptied.EmptyEntry.{EmptyEntry}
use Rattle.table_space.specs.declared.index.KeyState.{KeyState}
use Rattle.table_space.specs.Emptied.{empty_cmp, is_of, IsWhole}
use Rattle.table_space.specs.Numbers.{name_cmp}
use Rattle.table_space.specs.Ordered.{IsOrdered, Each}
use Rattle.table_space.specs.Seen.{IsOther}

-- keys of tables with the row id of their row, if it is in a slot
abbrev pub Rows : Type 0
Rows = List ((ℕ × Key) × Option ℕ)

-- what contracts see of an index
pub record Indexed : Type 0 where
  pub rows : Rows
  pub empty : List EmptyEntry

abbrev pub rows_in : List ((ℕ × Key) × KeyState) → Rows
rows_in es = map (λ e. (e.0, e.1.row)) es

abbrev pub known : Option (Option ℕ) → Option ℕ
known None = None
known (Some o) = o

-- the row id of a key's row, if it is in a slot
abbrev pub row_at : Rows → ℕ → Key → Option ℕ
row_at rows table key = known (lookup (is_at (name_cmp (table, key))) rows)

-- one where this is the row, and how many keys have their row there
abbrev pub one_at : ℕ → Option ℕ → ℕ
one_at row None = 0
one_at row (Some r) = cond (r == row) 1 0

abbrev pub rows_at : ℕ → Rows → ℕ
rows_at row rows = sum_by (λ e. one_at row e.1) rows

-- a key's row is here now, or nowhere, and all others are where they were
pub record RowBecomes (was now : Rows) (table : ℕ) (key : Key) (row : Option ℕ) : Type 0 where
  pub here : row_at now table key ≡ row
  pub beside : (t : ℕ) (k : Key) → IsOther table key t k → row_at now t k ≡ row_at was t k
  pub counts : (r : ℕ) → rows_at r now + one_at r (row_at was table key) ≡ rows_at r was + one_at r row

-- all rows are where they were
pub record KeepsRows (was now : Rows) : Type 0 where
  pub all : (t : ℕ) (k : Key) → row_at now t k ≡ row_at was t k
  pub counts : (r : ℕ) → rows_at r now ≡ rows_at r was

-- one where there is a row, so that a sum over keys counts those that have one
abbrev pub has_row : Option ℕ → ℕ
has_row None = 0
has_row (Some r) = 1

abbrev pub one_if : KeyState → ℕ
one_if s = has_row s.row

-- the row of a key of that state
abbrev pub row_if : Option KeyState → Option ℕ
row_if None = None
row_if (Some s) = s.row

-- how many entries without rows a key counts
abbrev pub empty_of : Option KeyState → ℕ
empty_of None = 0
empty_of (Some s) = s.empty

-- a sum over the states of keys, where that of one key becomes another, or goes
abbrev pub Sums : BTreeMap (ℕ × Key) KeyState → BTreeMap (ℕ × Key) KeyState → ℕ × Key → Option KeyState → Type 0
Sums was now q o = (f : KeyState → ℕ) → sum_by f (tree.values now) + unwrap_or (option_map f (tree.get name_cmp was q)) 0 ≡ sum_by f (tree.values was) + unwrap_or (option_map f o) 0

-- one key has another state, or none
pub record StateBecomes (was now : BTreeMap (ℕ × Key) KeyState) (q : ℕ × Key) (o : Option KeyState) : Type 0 where
  pub gets : (p : ℕ × Key) → tree.get name_cmp now p ≡ cond (is_at (name_cmp q) p) o (tree.get name_cmp was p)
  pub sums : Sums was now q o
  pub sorted : tree.IsOrdered name_cmp now

-- a key has one entry less, and no state where it has neither entries nor a row
pub record LosesOne (was now : BTreeMap (ℕ × Key) KeyState) (q : ℕ × Key) (s : KeyState) : Type 0 where
  pub state : Option KeyState
  pub becomes : StateBecomes was now q state
  pub row : row_if state ≡ s.row
  pub fewer : empty_of state + 1 ≡ s.empty

-- The entries are in order; there is a node for each key that has a row, to be emptied; and each key counts its entries without rows.
pub record IsIndex (keys : BTreeMap (ℕ × Key) KeyState) (empty spare : List EmptyEntry) : Type 0 where
  pub sorted : tree.IsOrdered name_cmp keys
  pub ordered : IsOrdered empty_cmp empty
  pub few : length empty + length spare < 2 ^ 32
  pub room : sum_by one_if (tree.values keys) ≤ length spare
  pub whole : Each IsWhole empty
  pub counted : (t : ℕ) (k : Key) → empty_of (tree.get name_cmp keys (t, k)) ≡ count_by (is_of t k) empty
