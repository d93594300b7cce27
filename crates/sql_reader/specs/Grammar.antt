-- The grammar of a line.
use Rattle.std.specs.Prelude.{ℕ, List, ◌++◌, length, take, ◌≤◌}
use Rattle.sql_reader.specs.declared.token.Edge.TheVariants.{Free}
use Rattle.sql_reader.specs.declared.token.Keyword.TheVariants as keyword
use Rattle.sql_reader.specs.declared.token.Kind.{Kind}
use Rattle.sql_reader.specs.declared.token.Kind.TheVariants.{Word, Name, Number, Signed, Text, Sign, Comment}
use Rattle.sql_reader.specs.declared.token.Sign.TheVariants as sign
use Rattle.sql_reader.specs.Form.{Spelled, Reads, kinds}
use Rattle.sql_reader.specs.Ebnf.{Grammar, token, both, either, many, Derives, optional, separated}
use Rattle.sql_reader.specs.Places.{lexicon}

infixr 20 ◌then◌
abbrev pub ◌then◌ : Grammar Kind → Grammar Kind → Grammar Kind
a then b = both a b

infixr 10 ◌or◌
abbrev pub ◌or◌ : Grammar Kind → Grammar Kind → Grammar Kind
a or b = either a b

-- name ( INTEGER | CHAR ( number ) )
abbrev pub column : Grammar Kind
column = token Name then (token (Word keyword.Integer)
    or (token (Word keyword.Char) then token (Sign sign.Open) then token Number then token (Sign sign.Close)))

-- CREATE TABLE name ( column { , column } ), with PRIMARY KEY allowed on the first column only
abbrev pub create : Grammar Kind
create = token (Word keyword.Create) then token (Word keyword.Table) then token Name then token (Sign sign.Open)
    then column then optional (token (Word keyword.Primary) then token (Word keyword.Key))
    then many (token (Sign sign.Comma) then column) then token (Sign sign.Close)

-- a number with an optional `-`, or a text
abbrev pub value : Grammar Kind
value = token Signed or token Text

-- INSERT INTO name VALUES ( value { , value } )
abbrev pub insert : Grammar Kind
insert = token (Word keyword.Insert) then token (Word keyword.Into) then token Name then token (Word keyword.Values)
    then token (Sign sign.Open) then separated (Sign sign.Comma) value then token (Sign sign.Close)

-- SELECT * FROM name WHERE name = value
abbrev pub select : Grammar Kind
select = token (Word keyword.Select) then token (Sign sign.Star) then token (Word keyword.From) then token Name
    then token (Word keyword.Where) then token Name then token (Sign sign.Equal) then value

-- DELETE FROM name WHERE name = value
abbrev pub delete : Grammar Kind
delete = token (Word keyword.Delete) then token (Word keyword.From) then token Name
    then token (Word keyword.Where) then token Name then token (Sign sign.Equal) then value

abbrev pub statement : Grammar Kind
statement = (token (Word keyword.Begin) then optional (token (Word keyword.Work)))
    or (token (Word keyword.Commit) then optional (token (Word keyword.Work)))
    or (token (Word keyword.Rollback) then optional (token (Word keyword.Work)))
    or create or insert or select or delete

-- a statement with an optional `;`
abbrev pub statement_line : Grammar Kind
statement_line = statement then optional (token (Sign sign.Semicolon))

-- an empty line, a comment or a statement
abbrev pub line : Grammar Kind
line = optional (statement_line or token Comment)

-- the bytes spell tokens that the grammar derives
abbrev pub IsLine : List ℕ → Type 0
IsLine bytes = (ks : List Kind) × Derives line ks × Spelled lexicon Free ks bytes

-- the bytes spell a statement
abbrev pub IsStatementText : List ℕ → Type 0
IsStatementText bytes = (ks : List Kind) × Derives statement_line ks × Spelled lexicon Free ks bytes

-- some continuation of the first n bytes is a line
abbrev pub GoesOn : List ℕ → ℕ → Type 0
GoesOn bytes n = (n ≤ length bytes) × (more : List ℕ) × IsLine (take n bytes ++ more)

-- a reading of a statement: its tokens, each with its kind and its bytes
abbrev pub IsReading : List ℕ → List (Kind × List ℕ) → Type 0
IsReading bytes ts = Derives statement_line (kinds ts) × Reads lexicon Free ts bytes
