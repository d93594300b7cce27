-- What a directory says.
use Rattle.std.specs.Prelude.{◌≡◌, ◌≢◌, ℕ, Some, None, length}
use Rattle.std.specs.List.{filter}
use Rattle.ids_base.specs.declared.lock.Key.{Key}
use Rattle.table_space.specs.Entries.{stays}
use Rattle.table_space.specs.declared.directory.Directory.{Directory}
use Rattle.table_space.specs.Numbers.{number_of, entries_under}
use Rattle.table_space.specs.Seen.{Entries}

-- the entries of each table and key
abbrev pub entries_at : Directory → Entries
entries_at d table key = entries_under d.listed.items (number_of d.numbers table key)

-- the empty entries of a transaction under a number are dropped, and no others
pub record EndsUnder (was now : Directory) (number tx : ℕ) : Type 0 where
  pub ended : (t : ℕ) (k : Key) → number_of was.numbers t k ≡ Some number → entries_at now t k ≡ filter (stays tx) (entries_at was t k)
  pub beside : (t : ℕ) (k : Key) (n : ℕ) → n ≢ number → number_of was.numbers t k ≡ Some n → (number_of now.numbers t k ≡ Some n) × (entries_at now t k ≡ entries_at was t k)
  pub unnamed : (t : ℕ) (k : Key) → number_of was.numbers t k ≡ None → number_of now.numbers t k ≡ None
  pub room : length now.marks ≡ length was.marks
