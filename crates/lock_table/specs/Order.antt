-- The order of lock names, as reports list them.
use Rattle.std.specs.Prelude.{◌≡◌, Bool, true, false, cond, Option, Some, None}
use Rattle.std.specs.Ordering.{nat_cmp, ordering_then, is_lt}
use Rattle.std.specs.declared.cmp.Ordering.{Ordering}
use Rattle.std.specs.Option.{option_cmp}
use Rattle.std.specs.Cmp.Lexicographic.{slice_cmp}
use Rattle.ids_base.specs.declared.lock.Key.{Key}
use Rattle.ids_base.specs.declared.lock.LockName.{LockName}
use Rattle.lock_table.specs.Table.{Table, HasEntry}

-- keys by their encoded bytes; those of one table have one size
abbrev pub key_cmp : Key → Key → Ordering
key_cmp a b = ordering_then (slice_cmp nat_cmp a.bytes b.bytes) (nat_cmp a.size b.size)

-- names by the number of the table; the table's own lock, which has no key, before its keys
abbrev pub name_cmp : LockName → LockName → Ordering
name_cmp a b = ordering_then (nat_cmp a.table b.table) (option_cmp key_cmp a.key b.key)

abbrev pub is_before : LockName → LockName → Bool
is_before a b = is_lt (name_cmp a b)

-- the name stands behind this one; behind none stands each
abbrev pub is_behind : Option LockName → LockName → Bool
is_behind None name = true
is_behind (Some after) name = is_before after name

-- the lesser of a name and the one found before
abbrev pub lesser : Option LockName → LockName → LockName
lesser None name = name
lesser (Some least) name = cond (is_before name least) name least

-- the name, where it stands behind `after` and before the one found so far; else that one
abbrev pub nearer : Option LockName → LockName → Option LockName → Option LockName
nearer best name after = cond (is_behind after name) (Some (lesser best name)) best

-- the least name with an entry that stands behind this one
pub record IsNextName (t : Table) (after : Option LockName) (name : LockName) : Type 0 where
  pub there : HasEntry t name
  pub behind : is_behind after name ≡ true
  pub least : (other : LockName) → HasEntry t other → is_behind after other ≡ true → is_before other name ≡ false

-- no name with an entry stands behind this one
abbrev pub IsLastName : Table → Option LockName → Type 0
IsLastName t after = (other : LockName) → HasEntry t other → is_behind after other ≡ true → ⊥
