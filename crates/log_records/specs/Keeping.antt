-- How a body keeps its records, and how a record lies in its bytes.
use Rattle.std.specs.Prelude.{◌≡◌, ℕ, ◌≤◌, List, [], length, take}
use Rattle.std.specs.List.{AllByRecursion}
use Rattle.std.specs.Option.{option_map_or}
use Rattle.log_records.specs.Entries.{Entry}
use Rattle.log_records.specs.Spelling.{IsEntry}
use Rattle.log_records.specs.Reading.{entries_at}
use Rattle.log_records.specs.Bodies.{entries_bytes}

-- so many records at the front of the bytes
unfoldable pub left_in : ℕ → List ℕ → List Entry
left_in count bytes = option_map_or (λ found. found.0) (entries_at count bytes) []

-- the bytes are so many records, and nothing else
pub record AreLeft (count : ℕ) (bytes : List ℕ) : Type 0 where
  pub counted : length (left_in count bytes) ≡ count
  pub each : AllByRecursion IsEntry (left_in count bytes)
  pub spelled : bytes ≡ entries_bytes (left_in count bytes)

-- the records that stand in the used bytes
unfoldable pub kept : ℕ → ℕ → List ℕ → List Entry
kept count used bytes = left_in count (take used bytes)

-- the used bytes are so many records, and nothing else
pub record IsKept (count used : ℕ) (bytes : List ℕ) : Type 0 where
  pub room : used ≤ 2004
  pub long : length bytes ≡ 2004
  pub counted : length (kept count used bytes) ≡ count
  pub each : AllByRecursion IsEntry (kept count used bytes)
  pub spelled : take used bytes ≡ entries_bytes (kept count used bytes)
