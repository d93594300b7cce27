-- Blanks between tokens.
use Rattle.std.specs.Prelude.{◌≡◌, ℕ, zero, suc, ◌≤◌, ◌<◌, true, false, List, [], ◌∷◌, length, take, get_or}
use Rattle.sql_reader.specs.declared.token.Edge.{Edge}
use Rattle.sql_reader.specs.declared.token.Edge.TheVariants.{Free}
use Rattle.sql_reader.specs.Form.{is_gap}
use Rattle.sql_reader.specs.Tokens.{is_blank}

-- what a gap of so many bytes leaves of an edge
abbrev pub edge_past : ℕ → Edge → Edge
edge_past zero e = e
edge_past (suc n) e = Free

-- so many bytes are a gap, and the next is no part of it
pub record IsGapLength (e : Edge) (bytes : List ℕ) (n : ℕ) : Type 0 where
  pub within : n ≤ length bytes
  pub gap : is_gap is_blank e (take n bytes) ≡ true
  pub stops : n < length bytes → is_gap is_blank (edge_past n e) (get_or bytes n 0 ∷ []) ≡ false
