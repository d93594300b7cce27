-- The table of places, and the tokens with their table.
use Rattle.std.specs.Prelude.{Bool, true, false, List, [], ◌∷◌}
use Rattle.sql_reader.specs.declared.token.Keyword.TheVariants as keyword
use Rattle.sql_reader.specs.declared.token.Kind.{Kind}
use Rattle.sql_reader.specs.declared.token.Kind.TheVariants.{Word, Name, Number, Signed, Text, Sign, Comment}
use Rattle.sql_reader.specs.declared.token.Sign.TheVariants as sign
use Rattle.sql_reader.specs.declared.place.Place.{Place}
use Rattle.sql_reader.specs.declared.place.Place.TheVariants as place
use Rattle.sql_reader.specs.Form.{Lexicon}
use Rattle.sql_reader.specs.Tokens.{whole, begins, is_blank, clings, edge}

-- which tokens may come at a place, and where each leads
abbrev pub row : Place → List (Kind × Place)
row place.LineStart = (Word keyword.Begin, place.Begin) ∷ (Word keyword.Commit, place.Begin) ∷ (Word keyword.Rollback, place.Begin) ∷ (Word keyword.Create, place.Create) ∷ (Word keyword.Insert, place.Insert) ∷ (Word keyword.Select, place.Select) ∷ (Word keyword.Delete, place.Rows) ∷ (Comment, place.LineEnd) ∷ []
row place.StatementStart = (Word keyword.Begin, place.Begin) ∷ (Word keyword.Commit, place.Begin) ∷ (Word keyword.Rollback, place.Begin) ∷ (Word keyword.Create, place.Create) ∷ (Word keyword.Insert, place.Insert) ∷ (Word keyword.Select, place.Select) ∷ (Word keyword.Delete, place.Rows) ∷ []
row place.LineEnd = []
row place.StatementEnd = (Sign sign.Semicolon, place.LineEnd) ∷ []
row place.Begin = (Word keyword.Work, place.StatementEnd) ∷ (Sign sign.Semicolon, place.LineEnd) ∷ []
row place.Create = (Word keyword.Table, place.CreateTable) ∷ []
row place.CreateTable = (Name, place.CreateName) ∷ []
row place.CreateName = (Sign sign.Open, place.Column) ∷ []
row place.Column = (Name, place.ColumnKind) ∷ []
row place.ColumnKind = (Word keyword.Integer, place.ColumnEnd) ∷ (Word keyword.Char, place.CharOpen) ∷ []
row place.ColumnEnd = (Word keyword.Primary, place.Primary) ∷ (Sign sign.Comma, place.Next) ∷ (Sign sign.Close, place.StatementEnd) ∷ []
row place.CharOpen = (Sign sign.Open, place.CharSize) ∷ []
row place.CharSize = (Number, place.CharClose) ∷ []
row place.CharClose = (Sign sign.Close, place.ColumnEnd) ∷ []
row place.Primary = (Word keyword.Key, place.NextEnd) ∷ []
row place.Next = (Name, place.NextKind) ∷ []
row place.NextKind = (Word keyword.Integer, place.NextEnd) ∷ (Word keyword.Char, place.NextCharOpen) ∷ []
row place.NextCharOpen = (Sign sign.Open, place.NextCharSize) ∷ []
row place.NextCharSize = (Number, place.NextCharClose) ∷ []
row place.NextCharClose = (Sign sign.Close, place.NextEnd) ∷ []
row place.NextEnd = (Sign sign.Comma, place.Next) ∷ (Sign sign.Close, place.StatementEnd) ∷ []
row place.Insert = (Word keyword.Into, place.InsertInto) ∷ []
row place.InsertInto = (Name, place.InsertName) ∷ []
row place.InsertName = (Word keyword.Values, place.InsertValues) ∷ []
row place.InsertValues = (Sign sign.Open, place.Value) ∷ []
row place.Value = (Signed, place.ValueEnd) ∷ (Text, place.ValueEnd) ∷ []
row place.ValueEnd = (Sign sign.Comma, place.Value) ∷ (Sign sign.Close, place.StatementEnd) ∷ []
row place.Select = (Sign sign.Star, place.Rows) ∷ []
row place.Rows = (Word keyword.From, place.RowsFrom) ∷ []
row place.RowsFrom = (Name, place.RowsTable) ∷ []
row place.RowsTable = (Word keyword.Where, place.Where) ∷ []
row place.Where = (Name, place.TermName) ∷ []
row place.TermName = (Sign sign.Equal, place.TermValue) ∷ []
row place.TermValue = (Signed, place.StatementEnd) ∷ (Text, place.StatementEnd) ∷ []

-- nothing more need come
abbrev pub ends : Place → Bool
ends place.LineStart = true
ends place.StatementStart = false
ends place.LineEnd = true
ends place.StatementEnd = true
ends place.Begin = true
ends place.Create = false
ends place.CreateTable = false
ends place.CreateName = false
ends place.Column = false
ends place.ColumnKind = false
ends place.ColumnEnd = false
ends place.CharOpen = false
ends place.CharSize = false
ends place.CharClose = false
ends place.Primary = false
ends place.Next = false
ends place.NextKind = false
ends place.NextCharOpen = false
ends place.NextCharSize = false
ends place.NextCharClose = false
ends place.NextEnd = false
ends place.Insert = false
ends place.InsertInto = false
ends place.InsertName = false
ends place.InsertValues = false
ends place.Value = false
ends place.ValueEnd = false
ends place.Select = false
ends place.Rows = false
ends place.RowsFrom = false
ends place.RowsTable = false
ends place.Where = false
ends place.TermName = false
ends place.TermValue = false

-- the tokens of a line
abbrev pub lexicon : Lexicon Kind Place
lexicon = record { whole = whole; begins = begins; blank = is_blank; clings = clings; edge = edge; row = row; last = ends }
