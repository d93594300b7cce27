-- The table is the grammar's.
use Rattle.std.proofs.Common.{◌≡◌, ℕ, zero, suc, List, [], ◌∷◌, refl, subst, sym}
use Rattle.sql_reader.specs.declared.token.Kind.{Kind}
use Rattle.sql_reader.specs.declared.place.Place.{Place}
use Rattle.sql_reader.specs.declared.place.Place.TheVariants as place
use Rattle.sql_reader.specs.Ebnf.{Grammar, nothing, Derives}
use Rattle.sql_reader.specs.Places.{row, ends, lexicon}
use Rattle.sql_reader.specs.Judging.{RunsThrough}
use Rattle.sql_reader.specs.declared.line.Verdict.{Verdict}
use Rattle.sql_reader.specs.declared.line.Verdict.TheVariants as verdict
use Rattle.sql_reader.specs.Judging.{Judged, IsFront, MatchVerdict}
use Rattle.sql_reader.specs.Grammar.{line, statement_line, IsLine, GoesOn, IsReading, IsStatementText}
use Rattle.sql_reader.specs.Form.{kinds, Runs}
use Rattle.sql_reader.specs.declared.token.Edge.TheVariants.{Free}
use Rattle.sql_reader.proofs.Form.{one_reading, reads_of}
use Rattle.sql_reader.proofs.Places.{laws}
use Rattle.sql_reader.proofs.Ebnf.{heads, nullable, as_heads, IsTable, runs_of, derives_of}

abbrev at_head : ℕ → List (Kind × Grammar Kind) → Grammar Kind
at_head n [] = nothing
at_head zero (x ∷ xs) = x.1
at_head (suc n) (x ∷ xs) = at_head n xs

abbrev e_LineStart : Grammar Kind
e_LineStart = line

abbrev e_StatementStart : Grammar Kind
e_StatementStart = statement_line

abbrev e_Begin : Grammar Kind
e_Begin = at_head zero (heads e_LineStart)

abbrev e_Create : Grammar Kind
e_Create = at_head (suc (suc (suc zero))) (heads e_LineStart)

abbrev e_Insert : Grammar Kind
e_Insert = at_head (suc (suc (suc (suc zero)))) (heads e_LineStart)

abbrev e_Select : Grammar Kind
e_Select = at_head (suc (suc (suc (suc (suc zero))))) (heads e_LineStart)

abbrev e_Rows : Grammar Kind
e_Rows = at_head (suc (suc (suc (suc (suc (suc zero)))))) (heads e_LineStart)

abbrev e_LineEnd : Grammar Kind
e_LineEnd = at_head (suc (suc (suc (suc (suc (suc (suc zero))))))) (heads e_LineStart)

abbrev e_StatementEnd : Grammar Kind
e_StatementEnd = at_head zero (heads e_Begin)

abbrev e_CreateTable : Grammar Kind
e_CreateTable = at_head zero (heads e_Create)

abbrev e_InsertInto : Grammar Kind
e_InsertInto = at_head zero (heads e_Insert)

abbrev e_RowsFrom : Grammar Kind
e_RowsFrom = at_head zero (heads e_Rows)

abbrev e_CreateName : Grammar Kind
e_CreateName = at_head zero (heads e_CreateTable)

abbrev e_InsertName : Grammar Kind
e_InsertName = at_head zero (heads e_InsertInto)

abbrev e_RowsTable : Grammar Kind
e_RowsTable = at_head zero (heads e_RowsFrom)

abbrev e_Column : Grammar Kind
e_Column = at_head zero (heads e_CreateName)

abbrev e_InsertValues : Grammar Kind
e_InsertValues = at_head zero (heads e_InsertName)

abbrev e_Where : Grammar Kind
e_Where = at_head zero (heads e_RowsTable)

abbrev e_ColumnKind : Grammar Kind
e_ColumnKind = at_head zero (heads e_Column)

abbrev e_Value : Grammar Kind
e_Value = at_head zero (heads e_InsertValues)

abbrev e_TermName : Grammar Kind
e_TermName = at_head zero (heads e_Where)

abbrev e_ColumnEnd : Grammar Kind
e_ColumnEnd = at_head zero (heads e_ColumnKind)

abbrev e_CharOpen : Grammar Kind
e_CharOpen = at_head (suc zero) (heads e_ColumnKind)

abbrev e_ValueEnd : Grammar Kind
e_ValueEnd = at_head zero (heads e_Value)

abbrev e_TermValue : Grammar Kind
e_TermValue = at_head zero (heads e_TermName)

abbrev e_Primary : Grammar Kind
e_Primary = at_head zero (heads e_ColumnEnd)

abbrev e_Next : Grammar Kind
e_Next = at_head (suc zero) (heads e_ColumnEnd)

abbrev e_CharSize : Grammar Kind
e_CharSize = at_head zero (heads e_CharOpen)

abbrev e_NextEnd : Grammar Kind
e_NextEnd = at_head zero (heads e_Primary)

abbrev e_NextKind : Grammar Kind
e_NextKind = at_head zero (heads e_Next)

abbrev e_CharClose : Grammar Kind
e_CharClose = at_head zero (heads e_CharSize)

abbrev e_NextCharOpen : Grammar Kind
e_NextCharOpen = at_head (suc zero) (heads e_NextKind)

abbrev e_NextCharSize : Grammar Kind
e_NextCharSize = at_head zero (heads e_NextCharOpen)

abbrev e_NextCharClose : Grammar Kind
e_NextCharClose = at_head zero (heads e_NextCharSize)

abbrev rest : Place → Grammar Kind
rest place.LineStart = e_LineStart
rest place.StatementStart = e_StatementStart
rest place.LineEnd = e_LineEnd
rest place.StatementEnd = e_StatementEnd
rest place.Begin = e_Begin
rest place.Create = e_Create
rest place.CreateTable = e_CreateTable
rest place.CreateName = e_CreateName
rest place.Column = e_Column
rest place.ColumnKind = e_ColumnKind
rest place.ColumnEnd = e_ColumnEnd
rest place.CharOpen = e_CharOpen
rest place.CharSize = e_CharSize
rest place.CharClose = e_CharClose
rest place.Primary = e_Primary
rest place.Next = e_Next
rest place.NextKind = e_NextKind
rest place.NextCharOpen = e_NextCharOpen
rest place.NextCharSize = e_NextCharSize
rest place.NextCharClose = e_NextCharClose
rest place.NextEnd = e_NextEnd
rest place.Insert = e_Insert
rest place.InsertInto = e_InsertInto
rest place.InsertName = e_InsertName
rest place.InsertValues = e_InsertValues
rest place.Value = e_Value
rest place.ValueEnd = e_ValueEnd
rest place.Select = e_Select
rest place.Rows = e_Rows
rest place.RowsFrom = e_RowsFrom
rest place.RowsTable = e_RowsTable
rest place.Where = e_Where
rest place.TermName = e_TermName
rest place.TermValue = e_TermValue

rows : (q : Place) → heads (rest q) ≡ as_heads rest (row q)
rows place.LineStart = refl
rows place.StatementStart = refl
rows place.LineEnd = refl
rows place.StatementEnd = refl
rows place.Begin = refl
rows place.Create = refl
rows place.CreateTable = refl
rows place.CreateName = refl
rows place.Column = refl
rows place.ColumnKind = refl
rows place.ColumnEnd = refl
rows place.CharOpen = refl
rows place.CharSize = refl
rows place.CharClose = refl
rows place.Primary = refl
rows place.Next = refl
rows place.NextKind = refl
rows place.NextCharOpen = refl
rows place.NextCharSize = refl
rows place.NextCharClose = refl
rows place.NextEnd = refl
rows place.Insert = refl
rows place.InsertInto = refl
rows place.InsertName = refl
rows place.InsertValues = refl
rows place.Value = refl
rows place.ValueEnd = refl
rows place.Select = refl
rows place.Rows = refl
rows place.RowsFrom = refl
rows place.RowsTable = refl
rows place.Where = refl
rows place.TermName = refl
rows place.TermValue = refl

lasts : (q : Place) → nullable (rest q) ≡ ends q
lasts place.LineStart = refl
lasts place.StatementStart = refl
lasts place.LineEnd = refl
lasts place.StatementEnd = refl
lasts place.Begin = refl
lasts place.Create = refl
lasts place.CreateTable = refl
lasts place.CreateName = refl
lasts place.Column = refl
lasts place.ColumnKind = refl
lasts place.ColumnEnd = refl
lasts place.CharOpen = refl
lasts place.CharSize = refl
lasts place.CharClose = refl
lasts place.Primary = refl
lasts place.Next = refl
lasts place.NextKind = refl
lasts place.NextCharOpen = refl
lasts place.NextCharSize = refl
lasts place.NextCharClose = refl
lasts place.NextEnd = refl
lasts place.Insert = refl
lasts place.InsertInto = refl
lasts place.InsertName = refl
lasts place.InsertValues = refl
lasts place.Value = refl
lasts place.ValueEnd = refl
lasts place.Select = refl
lasts place.Rows = refl
lasts place.RowsFrom = refl
lasts place.RowsTable = refl
lasts place.Where = refl
lasts place.TermName = refl
lasts place.TermValue = refl

table : IsTable lexicon rest
table = record { rows = rows; lasts = lasts }

pub grammar_of : (bytes : List ℕ) → RunsThrough bytes → IsLine bytes
grammar_of bytes (ks, run, spelled) = (ks, derives_of lexicon rest table place.LineStart ks run, spelled)

pub of_grammar : (bytes : List ℕ) → IsLine bytes → RunsThrough bytes
of_grammar bytes (ks, run, spelled) = (ks, runs_of lexicon rest table place.LineStart ks run, spelled)

front_of : (bytes : List ℕ) (n : ℕ) → GoesOn bytes n → IsFront bytes n
front_of bytes n (a, more, g) = (a, more, of_grammar _ g)

goes_of : (bytes : List ℕ) (n : ℕ) → IsFront bytes n → GoesOn bytes n
goes_of bytes n (a, more, g) = (a, more, grammar_of _ g)

pub verdict_of : (bytes : List ℕ) (v : Verdict) → Judged bytes v → MatchVerdict bytes v
verdict_of bytes verdict.Line j = grammar_of bytes j
verdict_of bytes (verdict.Bad n) j = ((λ g. j.0 (of_grammar bytes g)), goes_of bytes n j.1.0, (λ m f. j.1.1 m (front_of bytes m f)))

-- a statement by itself
pub runs_statement : (ks : List Kind) → Derives statement_line ks → Runs lexicon place.StatementStart ks
runs_statement ks d = runs_of lexicon rest table place.StatementStart ks d

pub derives_statement : (ks : List Kind) → Runs lexicon place.StatementStart ks → Derives statement_line ks
derives_statement ks run = derives_of lexicon rest table place.StatementStart ks run

-- a statement has one reading
pub only_reading : (bytes : List ℕ) (ts us : List (Kind × List ℕ)) → IsReading bytes ts → IsReading bytes us → ts ≡ us
only_reading bytes ts us a b = one_reading lexicon laws ts place.StatementStart Free us bytes (runs_statement (kinds ts) a.0) a.1 (runs_statement (kinds us) b.0) b.1

pub some_reading : (bytes : List ℕ) → IsStatementText bytes → (ts : List (Kind × List ℕ)) × IsReading bytes ts
some_reading bytes (ks, d, s) = let o = reads_of lexicon Free ks bytes s in (o.0, (subst (Derives statement_line) (sym o.1) d, o.2))
