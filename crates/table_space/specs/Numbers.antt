-- What a directory says.
use Rattle.std.specs.Prelude.{ℕ, List, [], Option, Some, None}
use Rattle.std.specs.declared.cmp.Ordering.{Ordering}
use Rattle.std.specs.Ordering.{nat_cmp, ordering_then}
use Rattle.std.specs.Cmp.Lexicographic.{slice_cmp}
use Rattle.std.specs.List.{slice_get}
use Rattle.std.specs.BTreeMap as tree
use Rattle.std.specs.BTreeMap.{BTreeMap}
use Rattle.ids_base.specs.declared.lock.Key.{Key}
use Rattle.table_space.specs.declared.entry.Entry.{Entry}
use Rattle.table_space.specs.declared.entry.Keyed.{Keyed}

-- the order of keys, and of tables with keys
abbrev pub key_cmp : Key → Key → Ordering
key_cmp a b = ordering_then (nat_cmp a.size b.size) (slice_cmp nat_cmp a.bytes b.bytes)

abbrev pub name_cmp : ℕ × Key → ℕ × Key → Ordering
name_cmp a b = ordering_then (nat_cmp a.0 b.0) (key_cmp a.1 b.1)

-- numbers of tables with keys
abbrev pub Numbers : Type 0
Numbers = BTreeMap (ℕ × Key) ℕ

-- the number of a table and key, if they have one
abbrev pub number_of : Numbers → ℕ → Key → Option ℕ
number_of numbers table key = tree.get name_cmp numbers (table, key)

-- the entries that stand somewhere, none where nothing does
abbrev pub entries_in : Option Keyed → List Entry
entries_in None = []
entries_in (Some l) = l.entries.items

-- the entries under a number
abbrev pub entries_under : List Keyed → Option ℕ → List Entry
entries_under ls None = []
entries_under ls (Some n) = entries_in (slice_get ls n)
