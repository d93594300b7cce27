-- What contracts see of the objects in memory whose calls fail by a list.
use Rattle.std.specs.Prelude.{ℕ, Bool, List, ◌==◌}
use Rattle.std.specs.List.{list_any}

-- whether the call of this number is to fail
abbrev pub is_listed : List ℕ → ℕ → Bool
is_listed listed call = list_any (λ n. n == call) listed

-- a source in memory: the bytes that it has yet to give, the numbers of the calls that fail,
-- the calls made, and the faults
pub record SourceState : Type 0 where
  pub left : List ℕ
  pub listed : List ℕ
  pub calls : ℕ
  pub faults : ℕ

-- a sink in memory: the bytes that it took, and the same
pub record SinkState : Type 0 where
  pub taken : List ℕ
  pub listed : List ℕ
  pub calls : ℕ
  pub faults : ℕ

-- a disk of files: the pages of its chunks, its faults, and its moment
pub record FilesState : Type 0 where
  pub pages : List ℕ
  pub faults : ℕ
  pub moment : ℕ
