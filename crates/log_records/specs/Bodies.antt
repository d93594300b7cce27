-- The bodies of log blocks and their bytes.
use Rattle.std.specs.Prelude.{ℕ, ◌-◌, ◌<◌, ◌≤◌, ◌^◌, ◌==◌, ◌&&◌, if◌then◌else◌, nat_le, List, length, ◌++◌, take, drop, replicate, sum_by, Option, Some, None}
use Rattle.std.specs.List.{flat_map, list_all, AllByRecursion}
use Rattle.std.specs.Int.{w16, w64}
use Rattle.log_records.specs.Entries.{Entry}
use Rattle.log_records.specs.Spelling.{number_bytes, entry_bytes, entry_size, IsEntry}
use Rattle.log_records.specs.Reading.{◌>>=◌, number_at, entries_at}

-- a block's number, and what its records say, in order
pub record Body : Type 0 where
  pub number : ℕ
  pub entries : List Entry

-- records one after another
abbrev pub entries_bytes : List Entry → List ℕ
entries_bytes es = flat_map entry_bytes es

abbrev pub entries_size : List Entry → ℕ
entries_size es = sum_by entry_size es

-- the block's number, how many bytes the records take, how many there are, the records, and zeros up to 2047 bytes
unfoldable pub body_bytes : Body → List ℕ
body_bytes b =
    number_bytes w64 b.number ++ (number_bytes w16 (entries_size b.entries) ++ (number_bytes w16 (length b.entries) ++ (entries_bytes b.entries ++ replicate (2035 - entries_size b.entries) 0)))

-- a body has at least one record, and at most 2004 bytes of them
pub record IsBody (b : Body) : Type 0 where
  pub number : b.number < 2 ^ 64
  pub some : 1 ≤ length b.entries
  pub each : AllByRecursion IsEntry b.entries
  pub fits : entries_size b.entries ≤ 2004

-- records that take all of the bytes
unfoldable pub whole_at : ℕ → List ℕ → Option (List Entry)
whole_at count bytes = do
  found ← entries_at count bytes
  if length found.1 == 0 then Some found.0 else None

-- the records of a body, and zeros behind them
unfoldable pub records_at : ℕ → ℕ → List ℕ → Option (List Entry)
records_at used count bytes =
    if (nat_le used 2004 && nat_le 1 count) && (length bytes == 2035 && list_all (λ b. b == 0) (drop used bytes)) then whole_at count (take used bytes) else None

-- the body that 2047 bytes spell, if they spell one
unfoldable pub body_of : List ℕ → Option Body
body_of bytes = do
  number ← number_at w64 bytes
  used ← number_at w16 number.1
  count ← number_at w16 used.1
  entries ← records_at used.0 count.0 count.1
  Some (record { number = number.0; entries = entries })
