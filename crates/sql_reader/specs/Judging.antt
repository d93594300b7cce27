-- What the readers of a line find.
use Rattle.std.specs.Prelude.{◌≡◌, ℕ, ◌+◌, Bool, true, false, List, ◌++◌, length, take, ◌≤◌, ◌<◌, IfSome, IfNone, Option}
use Rattle.sql_reader.specs.declared.token.Edge.{Edge}
use Rattle.sql_reader.specs.declared.token.Edge.TheVariants.{Free}
use Rattle.sql_reader.specs.declared.token.Kind.{Kind}
use Rattle.sql_reader.specs.declared.place.Place.{Place}
use Rattle.sql_reader.specs.declared.place.Place.TheVariants as place
use Rattle.sql_reader.specs.declared.line.Verdict.{Verdict}
use Rattle.sql_reader.specs.declared.line.Verdict.TheVariants as verdict
use Rattle.sql_reader.specs.Form.{InRow, fits, From}
use Rattle.sql_reader.specs.Tokens.{whole, begins, clings}
use Rattle.sql_reader.specs.Places.{lexicon}
use Rattle.sql_reader.specs.Grammar.{IsLine, GoesOn}

-- the table of places leads through the bytes
abbrev pub RunsThrough : List ℕ → Type 0
RunsThrough bytes = From lexicon place.LineStart Free bytes

-- some continuation of the first n bytes does
abbrev pub IsFront : List ℕ → ℕ → Type 0
IsFront bytes n = (n ≤ length bytes) × (more : List ℕ) × RunsThrough (take n bytes ++ more)

-- the length of the longest front
abbrev pub IsLongestFront : List ℕ → ℕ → Type 0
IsLongestFront bytes n = IsFront bytes n × ((m : ℕ) → IsFront bytes m → m ≤ n)

-- What was found of the tokens of some rows: the longest front of one, and the token that it is.
pub record Munched (rows : List (Kind × Place)) (e : Edge) (rest : List ℕ) (n : ℕ) (token : Option (Kind × Place)) : Type 0 where
  pub within : n ≤ length rest
  pub longest : (k : Kind) (r : Place) → InRow rows k r → fits (clings k) e ≡ true → n < length rest → begins k (take (n + 1) rest) ≡ false
  pub reached : 0 < n → (k : Kind) × (r : Place) × InRow rows k r × (fits (clings k) e ≡ true) × (begins k (take n rest) ≡ true)
  pub found : IfSome token (λ f. InRow rows f.0 f.1 × (fits (clings f.0) e ≡ true) × (whole f.0 (take n rest) ≡ true))
  pub none : IfNone token ((k : Kind) (r : Place) → InRow rows k r → fits (clings k) e ≡ true → whole k (take n rest) ≡ false)

-- how far a token of the kind goes, and whether it is one there
pub record Reached (k : Kind) (rest : List ℕ) (n : ℕ) (is_whole : Bool) : Type 0 where
  pub within : n ≤ length rest
  pub front : begins k (take n rest) ≡ true
  pub longest : n < length rest → begins k (take (n + 1) rest) ≡ false
  pub ends : is_whole ≡ whole k (take n rest)

abbrev pub Judged : List ℕ → Verdict → Type 0
Judged bytes verdict.Line = RunsThrough bytes
Judged bytes (verdict.Bad n) = (RunsThrough bytes → ⊥) × IsLongestFront bytes n

-- a line, or none, with the length of the longest front that goes on to one
abbrev pub MatchVerdict : List ℕ → Verdict → Type 0
MatchVerdict bytes verdict.Line = IsLine bytes
MatchVerdict bytes (verdict.Bad n) = (IsLine bytes → ⊥) × GoesOn bytes n × ((m : ℕ) → GoesOn bytes m → m ≤ n)
