-- What a checked script keeps.
use Rattle.std.specs.Prelude.{◌≡◌, ℕ, ◌-◌, ◌≤◌, List, [], ◌∷◌, length, take, drop, map}
use Rattle.ids_base.specs.declared.status.Why.TheVariants.{Wrong}
use Rattle.sql_reader.specs.declared.script.Span.{Span}
use Rattle.sql_reader.specs.declared.script.ScriptFault.{ScriptFault}
use Rattle.sql_reader.specs.declared.script.ScriptFault.TheVariants.{Bad, Memory}
use Rattle.sql_reader.specs.Grammar.{IsStatementText}
use Rattle.sql_reader.specs.Lines.{IsBadAt}

-- the text of a span
abbrev pub text_at : List ℕ → Span → List ℕ
text_at bytes s = take (s.end - s.start) (drop s.start bytes)

abbrev pub texts_at : List ℕ → List Span → List (List ℕ)
texts_at bytes spans = map (λ s. text_at bytes s) spans

-- a span of a statement
pub record IsSpan (bytes : List ℕ) (s : Span) : Type 0 where
  pub ordered : s.start ≤ s.end
  pub within : s.end ≤ length bytes
  pub statement : IsStatementText (text_at bytes s)

abbrev pub AreSpans : List ℕ → List Span → Type 0
AreSpans bytes [] = Unit {0}
AreSpans bytes (s ∷ ss) = IsSpan bytes s × AreSpans bytes ss

-- a fault other than want of memory has its place
abbrev pub MatchFault : List ℕ → ScriptFault → Type 0
MatchFault bytes (Bad byte why) = IsBadAt bytes byte × (why ≡ Wrong)
MatchFault bytes Memory = Unit {0}
