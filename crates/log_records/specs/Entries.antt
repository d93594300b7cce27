-- What the records of the logical log say.
use Rattle.std.specs.Prelude.{ℕ, List, [], Option, Some, None}

-- an open transaction that a checkpoint names, and where its BEGIN stands
pub record Named : Type 0 where
  pub tx : ℕ
  pub block : ℕ
  pub index : ℕ

-- a change names its table and the row id of its slot: its page times 256, plus its slot
pub data Entry : Type 0 where
  Begin : (tx session : ℕ) → Entry
  Commit : (tx : ℕ) → Entry
  Rollback : (tx : ℕ) → Entry
  HInsert : (tx table row : ℕ) (after : List ℕ) → Entry
  HDelete : (tx table row : ℕ) (before : List ℕ) → Entry
  HUpdate : (tx table row : ℕ) (before after : List ℕ) → Entry
  Ckpoint : (named : List Named) → Entry

-- a change of a slot by the rows that stand there before and after it: one was put in, taken out, or replaced
abbrev pub slot_entry : (tx table row : ℕ) (before after : Option (List ℕ)) → Entry
slot_entry tx table row None (Some after) = HInsert tx table row after
slot_entry tx table row (Some before) None = HDelete tx table row before
slot_entry tx table row (Some before) (Some after) = HUpdate tx table row before after
-- without a row it is no change, and has no spelling
slot_entry tx table row None None = HDelete tx table row []
