-- Reading records from left to right: what is read and the bytes behind it, or nothing.
use Rattle.std.specs.Prelude.{ℕ, zero, suc, ◌+◌, ◌==◌, ◌&&◌, if◌then◌else◌, nat_le, List, [], ◌∷◌, length, take, drop, Option, Some, None}
use Rattle.std.specs.Int.{Width, w16, w32, w64, byte_len, from_be_bytes}
use Rattle.log_records.specs.declared.kind.Kind.{Kind}
use Rattle.log_records.specs.declared.kind.Kind.TheVariants as kinds
use Rattle.log_records.specs.Entries.{Named, Entry, Begin, Commit, Rollback, HInsert, HDelete, HUpdate, Ckpoint}
use Rattle.log_records.specs.Spelling.{is_after}
use Rattle.log_records.specs.Kinds.{code_kind}

infixl 10 ◌>>=◌
abbrev pub ◌>>=◌ : {A B : Type 0} → Option A → (A → Option B) → Option B
(Some x) >>= f = f x
None >>= f = None

-- a number, the highest byte first
unfoldable pub number_at : Width → List ℕ → Option (ℕ × List ℕ)
number_at w bytes = if nat_le (byte_len w) (length bytes) then Some (from_be_bytes w (take (byte_len w) bytes), drop (byte_len w) bytes) else None

-- so many bytes
unfoldable pub piece_at : ℕ → List ℕ → Option (List ℕ × List ℕ)
piece_at n bytes = if nat_le n (length bytes) then Some (take n bytes, drop n bytes) else None

-- a kind is one byte
unfoldable pub kind_at : List ℕ → Option (Kind × List ℕ)
kind_at [] = None
kind_at (code ∷ rest) = do
  kind ← code_kind code
  Some (kind, rest)

-- the length of a row
unfoldable pub row_length_at : List ℕ → Option (ℕ × List ℕ)
row_length_at bytes = do
  n ← number_at w16 bytes
  if nat_le 1 n.0 && nat_le n.0 800 then Some n else None

unfoldable pub row_at : List ℕ → Option (List ℕ × List ℕ)
row_at bytes = do
  n ← row_length_at bytes
  piece_at n.0 n.1

-- the rows before and after, of one length
unfoldable pub rows_at : List ℕ → Option ((List ℕ × List ℕ) × List ℕ)
rows_at bytes = do
  n ← row_length_at bytes
  before ← piece_at n.0 n.1
  after ← piece_at n.0 before.1
  Some ((before.0, after.0), after.1)

-- the table and the row id
unfoldable pub place_at : List ℕ → Option ((ℕ × ℕ) × List ℕ)
place_at bytes = do
  table ← number_at w32 bytes
  row ← number_at w32 table.1
  Some ((table.0, row.0), row.1)

-- a transaction that a checkpoint names
unfoldable pub named_at : List ℕ → Option (Named × List ℕ)
named_at bytes = do
  tx ← number_at w64 bytes
  block ← number_at w64 tx.1
  index ← number_at w16 block.1
  Some (record { tx = tx.0; block = block.0; index = index.0 }, index.1)

-- the next one, of a number behind the last
unfoldable pub next_at : Option ℕ → List ℕ → Option (Named × List ℕ)
next_at last bytes = do
  n ← named_at bytes
  if is_after last n.0.tx then Some n else None

-- so many, by strictly rising number
unfoldable pub names_at : ℕ → Option ℕ → List ℕ → Option (List Named × List ℕ)
names_at zero last bytes = Some ([], bytes)
names_at (suc n) last bytes = do
  first ← next_at last bytes
  others ← names_at n (Some first.0.tx) first.1
  Some (first.0 ∷ others.0, others.1)

-- at most 64 of them, behind their number
unfoldable pub list_at : List ℕ → Option (List Named × List ℕ)
list_at bytes = do
  count ← number_at w16 bytes
  if nat_le count.0 64 then names_at count.0 None count.1 else None

-- a checkpoint and the transactions that it names
unfoldable pub checkpoint_at : List ℕ → Option (Entry × List ℕ)
checkpoint_at bytes = do
  named ← list_at bytes
  Some (Ckpoint named.0, named.1)

-- what follows the transaction of a record
unfoldable pub fields_at : Kind → ℕ → List ℕ → Option (Entry × List ℕ)
fields_at kinds.Begin tx bytes = do
  session ← number_at w32 bytes
  Some (Begin tx session.0, session.1)
fields_at kinds.Commit tx bytes = Some (Commit tx, bytes)
fields_at kinds.Rollback tx bytes = Some (Rollback tx, bytes)
fields_at kinds.HInsert tx bytes = do
  place ← place_at bytes
  after ← row_at place.1
  Some (HInsert tx place.0.0 place.0.1 after.0, after.1)
fields_at kinds.HDelete tx bytes = do
  place ← place_at bytes
  before ← row_at place.1
  Some (HDelete tx place.0.0 place.0.1 before.0, before.1)
fields_at kinds.HUpdate tx bytes = do
  place ← place_at bytes
  rows ← rows_at place.1
  Some (HUpdate tx place.0.0 place.0.1 rows.0.0 rows.0.1, rows.1)
fields_at kinds.Ckpoint tx bytes = if tx == 0 then checkpoint_at bytes else None

-- what follows the length of a record
unfoldable pub tail_at : List ℕ → Option (Entry × List ℕ)
tail_at bytes = do
  kind ← kind_at bytes
  tx ← number_at w64 kind.1
  fields_at kind.0 tx.0 tx.1

-- a record: its length is that of its bytes
unfoldable pub entry_at : List ℕ → Option (Entry × List ℕ)
entry_at bytes = do
  size ← number_at w16 bytes
  found ← tail_at size.1
  if (size.0 + length found.1) == length bytes then Some found else None

-- so many records, one after another
unfoldable pub entries_at : ℕ → List ℕ → Option (List Entry × List ℕ)
entries_at zero bytes = Some ([], bytes)
entries_at (suc n) bytes = do
  first ← entry_at bytes
  others ← entries_at n first.1
  Some (first.0 ∷ others.0, others.1)
