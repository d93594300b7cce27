-- Tables that were entered, and their names.
use Rattle.std.specs.Prelude.{◌≡◌, ◌≢◌, ℕ, ◌≤◌, ◌<◌, ◌^◌, Bool, true, false, ◌&&◌, cond, nat_eq, is_some, List, ◌++◌, Option, Some, None, length, drop, replicate}
use Rattle.std.specs.List.{count_by}
use Rattle.std.specs.Option.{is_none}
use Rattle.std.specs.Ordering.{nat_cmp, ordering_then, is_eq}
use Rattle.std.specs.Cmp.Lexicographic.{slice_cmp, pointwise}
use Rattle.std.specs.declared.cmp.Ordering.{Ordering}
use Rattle.ids_base.specs.Shapes.{Name}
use Rattle.table_space.specs.declared.space.Table.{Table}
use Rattle.table_space.specs.declared.tables.Entered.{Entered}
use Rattle.table_space.specs.declared.tables.TableName.{TableName}

-- a name, filled up with zeros, and a table's number
abbrev pub table_name : Name → ℕ → TableName
table_name name table = record { text = name ++ drop (length name) (replicate 18 0); len = length name; table = table }

-- the order of names with numbers
abbrev pub name_cmp : TableName → TableName → Ordering
name_cmp a b = ordering_then (slice_cmp nat_cmp a.text b.text) (ordering_then (nat_cmp a.len b.len) (nat_cmp a.table b.table))

-- what each table was entered with, if it was
abbrev pub Known : Type 0
Known = ℕ → Option Entered

abbrev pub table_in : Option Entered → Option Table
table_in None = None
table_in (Some e) = Some e.table

-- a table was entered, and its name is shown: its node is not kept with it
abbrev pub is_shown : Option Entered → Bool
is_shown None = false
is_shown (Some e) = is_none e.node

-- and it is this name
abbrev pub is_shown_as : Name → Option Entered → Bool
is_shown_as name None = false
is_shown_as name (Some e) = is_none e.node && pointwise nat_eq e.table.name name

-- the names that are shown are those of such tables
abbrev pub AreShown : Known → List TableName → Type 0
AreShown tables names = (name : Name) (table : ℕ) → count_by (λ x. is_eq (name_cmp x (table_name name table))) names ≡ cond (is_shown_as name (tables table)) 1 0

-- all tables that were entered have numbers of 32 bits
abbrev pub AreNumbers : Known → Type 0
AreNumbers tables = (table : ℕ) → is_some (tables table) ≡ true → table < 2 ^ 32

-- the least number of a table whose name is shown as this
pub record IsLeastShown (tables : Known) (name : Name) (table : ℕ) : Type 0 where
  pub one : is_shown_as name (tables table) ≡ true
  pub least : (t : ℕ) → is_shown_as name (tables t) ≡ true → table ≤ t

-- all tables keep what they were entered with
abbrev pub AreKept : Known → Known → Type 0
AreKept was now = (t : ℕ) → table_in (now t) ≡ table_in (was t)

-- a name is shown or not, and each other table's as before
pub record Shows (was now : Known) (table : ℕ) (shown : Bool) : Type 0 where
  pub kept : AreKept was now
  pub here : is_shown (now table) ≡ (is_some (was table) && shown)
  pub beside : (t : ℕ) → t ≢ table → is_shown (now t) ≡ is_shown (was t)
