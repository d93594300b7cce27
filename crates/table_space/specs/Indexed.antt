-- What a directory keeps: each key with entries has a number, and the marks of a number tell of its entries.
use Rattle.std.specs.Prelude.{◌≡◌, ◌≢◌, ℕ, ◌≤◌, ◌<◌, ◌%◌, Bool, true, not, List, [], Some, length, slice_index}
use Rattle.std.specs.List.{list_any, slice_get}
use Rattle.std.specs.Int.{bit_at}
use Rattle.ids_base.specs.declared.lock.Key.{Key}
use Rattle.table_space.specs.declared.entry.Entry.{Entry}
use Rattle.table_space.specs.declared.entry.Keyed.{Keyed}
use Rattle.table_space.specs.Entries.{stays}
use Rattle.table_space.specs.Numbers.{Numbers, number_of}

-- the entry goes at the end of a transaction
abbrev pub goes : ℕ → Entry → Bool
goes tx e = not (stays tx e)

-- the marks of entries: for each transaction that one of them goes with its number modulo 63, and 63 only where there are none
pub record AreMarks (es : List Entry) (marks : ℕ) : Type 0 where
  pub left : (tx : ℕ) → list_any (goes tx) es ≡ true → bit_at marks (tx % 63) ≡ 1
  pub free : bit_at marks 63 ≡ 1 → length es ≡ 0

-- entries of this table and key, at least one
pub record IsOf (l : Keyed) (table : ℕ) (key : Key) : Type 0 where
  pub table_is : l.table ≡ table
  pub key_is : l.key ≡ key
  pub some : l.entries.items ≢ []

-- such entries stand under a number
pub record HasKey (ls : List Keyed) (n table : ℕ) (key : Key) : Type 0 where
  pub within : n < length ls
  pub of : (l : Keyed) → slice_get ls n ≡ Some l → IsOf l table key

pub record IsIndexed (numbers : Numbers) (ls : List Keyed) (marks : List ℕ) : Type 0 where
  pub room : length ls ≤ length marks
  pub here : (t : ℕ) (k : Key) (n : ℕ) → number_of numbers t k ≡ Some n → HasKey ls n t k
  pub named : (n : ℕ) (l : Keyed) → slice_get ls n ≡ Some l → l.entries.items ≢ [] → number_of numbers l.table l.key ≡ Some n
  pub marked : (n : ℕ) (l : Keyed) → slice_get ls n ≡ Some l → AreMarks l.entries.items (slice_index marks n)
  pub beyond : (n : ℕ) → length ls ≤ n → bit_at (slice_index marks n) 63 ≡ 0
