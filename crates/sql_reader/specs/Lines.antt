-- A script as its lines.
use Rattle.std.specs.Prelude.{◌≡◌, ℕ, ◌+◌, Bool, false, cond, not, ◌==◌, nat_le, if◌then◌else◌, List, [], ◌∷◌, ◌++◌, length, drop, get_or, filter}
use Rattle.sql_reader.specs.Tokens.{is_blank}
use Rattle.sql_reader.specs.Grammar.{IsLine}

-- a byte before the first line
abbrev pub before_first : ℕ → List (List ℕ) → List (List ℕ)
before_first b [] = (b ∷ []) ∷ []
before_first b (l ∷ ls) = (b ∷ l) ∷ ls

-- the lines between newlines; the last may be empty
abbrev pub lines_of : List ℕ → List (List ℕ)
lines_of [] = [] ∷ []
lines_of (b ∷ bs) = if b == 10 then [] ∷ lines_of bs else before_first b (lines_of bs)

abbrev pub AreLines : List (List ℕ) → Type 0
AreLines [] = Unit {0}
AreLines (l ∷ ls) = IsLine l × AreLines ls

-- THE SCRIPTS: each line is one that is read.
abbrev pub InGrammar : List ℕ → Type 0
InGrammar bytes = AreLines (lines_of bytes)

-- where the line behind some lines begins
abbrev pub start_behind : List (List ℕ) → ℕ
start_behind [] = 0
start_behind (l ∷ ls) = (length l + 1) + start_behind ls

-- the first line that is none begins here
abbrev pub IsBadAt : List ℕ → ℕ → Type 0
IsBadAt bytes at = (before : List (List ℕ)) × (bad : List ℕ) × (after : List (List ℕ))
    × (lines_of bytes ≡ before ++ bad ∷ after) × AreLines before × (IsLine bad → ⊥) × (at ≡ start_behind before)

-- a line that says something: its first byte that is no blank is there, and is no `-` of a comment
abbrev pub is_statement_line : List ℕ → Bool
is_statement_line [] = false
is_statement_line (b ∷ bs) = cond (is_blank b) (is_statement_line bs) (not (b == 45))

-- the statements of a script, in order
abbrev pub statements_of : List ℕ → List (List ℕ)
statements_of bytes = filter is_statement_line (lines_of bytes)

-- the sessions of a phase: one, where there is a statement
abbrev pub sessions : List (List ℕ) → List (List (List ℕ))
sessions [] = []
sessions (text ∷ texts) = (text ∷ texts) ∷ []

-- the phases of sessions of statements: one phase
abbrev pub texts_of : List ℕ → List (List (List (List ℕ)))
texts_of bytes = sessions (statements_of bytes) ∷ []

-- the sessions of a phase, the statements of a session, the text of a statement, counted from 0; none at a place that is not there
abbrev pub sessions_in : List (List (List (List ℕ))) → ℕ → List (List (List ℕ))
sessions_in script phase = get_or script phase []

abbrev pub statements_in : List (List (List (List ℕ))) → ℕ → ℕ → List (List ℕ)
statements_in script phase session = get_or (sessions_in script phase) session []

abbrev pub text_in : List (List (List (List ℕ))) → ℕ → ℕ → ℕ → List ℕ
text_in script phase session statement = get_or (statements_in script phase session) statement []

-- the lines that are left where one begins here
abbrev pub lines_left : List ℕ → ℕ → List (List ℕ)
lines_left bytes start = cond (nat_le start (length bytes)) (lines_of (drop start bytes)) []
