-- A record at the front of bytes.
use Rattle.std.specs.Prelude.{◌≡◌, ◌≢◌, ℕ, ◌≤◌, List, ◌++◌, length, take}
use Rattle.log_records.specs.Entries.{Entry}
use Rattle.log_records.specs.Spelling.{entry_bytes, IsEntry}

-- the first so many bytes are the record's
pub record IsTaken (bytes : List ℕ) (e : Entry) (size : ℕ) : Type 0 where
  pub within : size ≤ length bytes
  pub entry : IsEntry e
  pub spelled : take size bytes ≡ entry_bytes e

-- no record's bytes are a prefix of the bytes
abbrev pub IsNoRecord : List ℕ → Type 0
IsNoRecord bytes = (e : Entry) (rest : List ℕ) → IsEntry e → bytes ≢ entry_bytes e ++ rest
