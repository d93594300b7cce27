-- The one spelling of each record of the log.
use Rattle.std.specs.Prelude.{◌≡◌, ℕ, ◌+◌, ◌*◌, ◌<◌, ◌≤◌, ◌^◌, Bool, true, ◌&&◌, IsTrue, nat_lt, List, [], ◌∷◌, ◌++◌, length, slice_index, Option, Some, None}
use Rattle.std.specs.List.{flat_map, AllByRecursion}
use Rattle.std.specs.Int.{Width, w16, w32, w64, to_be_bytes}
use Rattle.ids_base.specs.RowBytes.{HasRowLength}
use Rattle.log_records.specs.Entries.{Named, Entry, Begin, Commit, Rollback, HInsert, HDelete, HUpdate, Ckpoint}

-- a number's bytes, the highest first
unfoldable pub number_bytes : Width → ℕ → List ℕ
number_bytes w n = to_be_bytes w n

-- each kind of record has a number
abbrev pub kind_of : Entry → ℕ
kind_of (Begin tx session) = 1
kind_of (Commit tx) = 2
kind_of (Rollback tx) = 3
kind_of (HInsert tx table row after) = 4
kind_of (HDelete tx table row before) = 5
kind_of (HUpdate tx table row before after) = 6
kind_of (Ckpoint named) = 7

-- a record's transaction; a checkpoint has 0
abbrev pub tx_of : Entry → ℕ
tx_of (Begin tx session) = tx
tx_of (Commit tx) = tx
tx_of (Rollback tx) = tx
tx_of (HInsert tx table row after) = tx
tx_of (HDelete tx table row before) = tx
tx_of (HUpdate tx table row before after) = tx
tx_of (Ckpoint named) = 0

-- how many bytes a record takes
abbrev pub entry_size : Entry → ℕ
entry_size (Begin tx session) = 15
entry_size (Commit tx) = 11
entry_size (Rollback tx) = 11
entry_size (HInsert tx table row after) = 21 + length after
entry_size (HDelete tx table row before) = 21 + length before
entry_size (HUpdate tx table row before after) = 21 + length before + length after
entry_size (Ckpoint named) = 13 + 18 * length named

-- the table and the row id
abbrev pub place_bytes : ℕ → ℕ → List ℕ
place_bytes table row = number_bytes w32 table ++ number_bytes w32 row

-- the length of a row, and the row
abbrev pub row_bytes : List ℕ → List ℕ
row_bytes row = number_bytes w16 (length row) ++ row

-- the number of a transaction, and the block and the index of its BEGIN
abbrev pub named_bytes : Named → List ℕ
named_bytes n = number_bytes w64 n.tx ++ number_bytes w64 n.block ++ number_bytes w16 n.index

-- what follows a record's transaction
abbrev pub fields_bytes : Entry → List ℕ
fields_bytes (Begin tx session) = number_bytes w32 session
fields_bytes (Commit tx) = []
fields_bytes (Rollback tx) = []
fields_bytes (HInsert tx table row after) = place_bytes table row ++ row_bytes after
fields_bytes (HDelete tx table row before) = place_bytes table row ++ row_bytes before
fields_bytes (HUpdate tx table row before after) = place_bytes table row ++ (row_bytes before ++ after)
fields_bytes (Ckpoint named) = number_bytes w16 (length named) ++ flat_map named_bytes named

-- a record is its whole length, its kind, its transaction and its fields
unfoldable pub entry_bytes : Entry → List ℕ
entry_bytes e = number_bytes w16 (entry_size e) ++ (kind_of e ∷ (number_bytes w64 (tx_of e) ++ fields_bytes e))

-- each is below 256
abbrev pub AreBytes : List ℕ → Type 0
AreBytes bytes = (i : ℕ) → slice_index bytes i < 256

-- 1 to 800 bytes
pub record IsRow (bytes : List ℕ) : Type 0 where
  pub long : HasRowLength bytes
  pub fits : AreBytes bytes

-- a number stands behind another, or is the first
abbrev pub is_after : Option ℕ → ℕ → Bool
is_after None n = true
is_after (Some last) n = nat_lt last n

-- the numbers rise strictly, from behind the last one on
abbrev pub rises_after : Option ℕ → List Named → Bool
rises_after last [] = true
rises_after last (n ∷ ns) = is_after last n.tx && rises_after (Some n.tx) ns

-- the fields of a named transaction are in their ranges
pub record IsNamed (n : Named) : Type 0 where
  pub tx : n.tx < 2 ^ 64
  pub block : n.block < 2 ^ 64
  pub index : n.index < 2 ^ 16

-- a checkpoint names at most 64 transactions, by strictly rising number
pub record AreNamed (ns : List Named) : Type 0 where
  pub few : length ns ≤ 64
  pub rising : IsTrue (rises_after None ns)
  pub each : AllByRecursion IsNamed ns

-- the transaction, the table and the row id of a change are in their ranges
pub record IsChange (tx table row : ℕ) : Type 0 where
  pub tx_fits : tx < 2 ^ 64
  pub table_fits : table < 2 ^ 32
  pub row_fits : row < 2 ^ 32

-- the rows before and after a change have one length
pub record AreRows (before after : List ℕ) : Type 0 where
  pub first : IsRow before
  pub second : IsRow after
  pub same : length before ≡ length after

-- the fields of a record are in their ranges
abbrev pub IsEntry : Entry → Type 0
IsEntry (Begin tx session) = (tx < 2 ^ 64) × (session < 2 ^ 32)
IsEntry (Commit tx) = tx < 2 ^ 64
IsEntry (Rollback tx) = tx < 2 ^ 64
IsEntry (HInsert tx table row after) = IsChange tx table row × IsRow after
IsEntry (HDelete tx table row before) = IsChange tx table row × IsRow before
IsEntry (HUpdate tx table row before after) = IsChange tx table row × AreRows before after
IsEntry (Ckpoint named) = AreNamed named
