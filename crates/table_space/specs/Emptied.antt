-- Entries of keys that have no row in a slot, and their order.
use Rattle.std.specs.Prelude.{◌≡◌, ◌≢◌, ℕ, ◌≤◌, ◌<◌, ◌^◌, Bool, ◌&&◌, ◌==◌, nat_eq, List, ◌∷◌, ◌++◌, Option, None, length, replicate}
use Rattle.std.specs.declared.cmp.Ordering.{Ordering}
use Rattle.std.specs.Ordering.{nat_cmp, ordering_then, is_eq}
use Rattle.std.specs.Option.{option_cmp, option_eq}
use Rattle.std.proofs.Common.{◌⊎◌}
use Rattle.ids_base.specs.declared.lock.Key.{Key}
use Rattle.table_space.specs.declared.emptied.EmptyEntry.{EmptyEntry}
use Rattle.table_space.specs.Numbers.{key_cmp, name_cmp}
use Rattle.table_space.specs.Ordered.{Each}

-- a key's entry without a row id, and one whose row a transaction took out of a slot
abbrev pub left : ℕ → ℕ → ℕ → Key → EmptyEntry
left tx row table key = record { tx = tx; vacant_in = None; row = row; table = table; key = key }

abbrev pub made : ℕ → ℕ → Key → EmptyEntry
made tx table key = left tx 0 table key

abbrev pub least_key : Key
least_key = record { size = 0; bytes = replicate 32 0 }

-- the least entry of a transaction with a row id of at least so much, that tells of a table, or does not
abbrev pub first : ℕ → Option ℕ → ℕ → EmptyEntry
first tx vacant_in row = record { tx = tx; vacant_in = vacant_in; row = row; table = 0; key = least_key }

-- a transaction's entry with this row id that tells of a table, or does not
abbrev pub is_at : ℕ → Option ℕ → ℕ → EmptyEntry → Bool
is_at tx vacant_in row e = (e.tx == tx) && (option_eq nat_eq e.vacant_in vacant_in && (e.row == row))

-- by transaction, by the table that they tell of, if they do, and by row id, table and key
abbrev pub empty_cmp : EmptyEntry → EmptyEntry → Ordering
empty_cmp a b = ordering_then (nat_cmp a.tx b.tx) (ordering_then (option_cmp nat_cmp a.vacant_in b.vacant_in) (ordering_then (nat_cmp a.row b.row) (ordering_then (nat_cmp a.table b.table) (key_cmp a.key b.key))))

-- an entry of a table and key
abbrev pub is_of : ℕ → Key → EmptyEntry → Bool
is_of table key e = is_eq (name_cmp (e.table, e.key) (table, key))

-- what the types say of an entry: a key has 32 bytes, and a transaction's number 64 bits
abbrev pub IsWhole : EmptyEntry → Type 0
IsWhole e = (length e.key.bytes ≡ 32) × (e.tx < 2 ^ 64)

-- a transaction's entry with this row id
abbrev pub is_left : ℕ → ℕ → EmptyEntry → Bool
is_left tx row e = (e.tx == tx) && (e.row == row)

-- an entry of the same key with the same row id that tells of the same table, of any transaction
pub record IsLike (a e : EmptyEntry) : Type 0 where
  pub vacant_in : e.vacant_in ≡ a.vacant_in
  pub row : e.row ≡ a.row
  pub table : e.table ≡ a.table
  pub key : e.key ≡ a.key

-- an entry with this row id tells of no table, or of this one
abbrev pub MayTell : ℕ → Option ℕ → EmptyEntry → Type 0
MayTell row owner e = e.row ≡ row → (e.vacant_in ≡ None) ⊎ (e.vacant_in ≡ owner)

-- an entry stands among others
pub record Stands (es : List EmptyEntry) (e : EmptyEntry) : Type 0 where
  pub before : List EmptyEntry
  pub behind : List EmptyEntry
  pub is : es ≡ before ++ e ∷ behind

-- one entry more, somewhere among the others
pub record HasOneMore (was now : List EmptyEntry) (came : EmptyEntry) : Type 0 where
  pub before : List EmptyEntry
  pub behind : List EmptyEntry
  pub old : was ≡ before ++ behind
  pub new : now ≡ before ++ came ∷ behind

-- one entry went, and another came
pub record IsExchanged (was now : List EmptyEntry) (went came : EmptyEntry) : Type 0 where
  pub beside : List EmptyEntry
  pub left : HasOneMore beside was went
  pub joined : HasOneMore beside now came

-- the least transaction from one on that has an entry
pub record IsNextTx (es : List EmptyEntry) (from tx : ℕ) : Type 0 where
  pub low : from ≤ tx
  pub one : EmptyEntry
  pub stands : Stands es one
  pub its : one.tx ≡ tx
  pub least : Each (λ e. (e.tx < from) ⊎ (tx ≤ e.tx)) es

-- an entry of a transaction
pub record IsOneOf (es : List EmptyEntry) (tx : ℕ) (e : EmptyEntry) : Type 0 where
  pub stands : Stands es e
  pub its : e.tx ≡ tx
