-- Named transactions that still lie in their bytes.
use Rattle.std.specs.Prelude.{◌≡◌, ℕ, ◌*◌, ◌≤◌, List, [], length, take, IsSome, None}
use Rattle.std.specs.Option.{option_map_or}
use Rattle.std.specs.List.{flat_map}
use Rattle.log_records.specs.Entries.{Named}
use Rattle.log_records.specs.Spelling.{AreNamed, named_bytes}
use Rattle.log_records.specs.Reading.{names_at}

-- so many at the front of the bytes
unfoldable pub names_of : ℕ → List ℕ → List Named
names_of count bytes = option_map_or (λ found. found.0) (names_at count None bytes) []

-- so many that a checkpoint may name stand there
pub record AreLying (count : ℕ) (bytes : List ℕ) : Type 0 where
  pub read : IsSome (names_at count None bytes)
  pub counted : length (names_of count bytes) ≡ count
  pub named : AreNamed (names_of count bytes)
  pub within : 18 * count ≤ length bytes
  pub spelled : take (18 * count) bytes ≡ flat_map named_bytes (names_of count bytes)
