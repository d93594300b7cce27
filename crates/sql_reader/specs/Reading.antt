-- The tokens of a statement, read one after another.
use Rattle.std.specs.Prelude.{◌≡◌, ℕ, ◌+◌, ◌≤◌, ◌<◌, Bool, true, false, ◌&&◌, List, [], ◌∷◌, ◌++◌, ◌⊎◌, length, take, drop}
use Rattle.sql_reader.specs.declared.token.Edge.{Edge}
use Rattle.sql_reader.specs.declared.token.Kind.{Kind}
use Rattle.sql_reader.specs.declared.token.Kind.TheVariants.{Word, Number, Signed, Text, Sign}
use Rattle.sql_reader.specs.declared.token.Keyword.{Keyword}
use Rattle.sql_reader.specs.declared.token.Keyword.TheVariants as keyword
use Rattle.sql_reader.specs.declared.token.Sign.TheVariants as sign
use Rattle.sql_reader.specs.declared.place.Place.{Place}
use Rattle.sql_reader.specs.declared.place.Place.TheVariants as place
use Rattle.ids_base.specs.declared.plan.DataStatement.{DataStatement}
use Rattle.sql_reader.specs.declared.reader.Reader.{Reader}
use Rattle.sql_reader.specs.Form.{InRow, Runs, From, Reads, kinds}
use Rattle.sql_reader.specs.Tokens.{whole, edge}
use Rattle.sql_reader.specs.Places.{row, ends, lexicon}
use Rattle.sql_reader.specs.Plans.{Item, says_word, statement_items, items_of_tokens}

-- what is left reads to an end from the place
abbrev pub IsOn : Reader → Type 0
IsOn r = From lexicon r.place r.edge r.rest.now

-- what is left reads as these tokens
abbrev pub LeftReads : Reader → List (Kind × List ℕ) → Type 0
LeftReads r ts = Runs lexicon r.place (kinds ts) × Reads lexicon r.edge ts r.rest.now

-- between the two readers stand tokens that say these items
pub record Went (old new : Reader) (items : List Item) : Type 0 where
  pub tokens : List (Kind × List ℕ)
  pub say : items_of_tokens tokens ≡ items
  pub reads : (ts : List (Kind × List ℕ)) → LeftReads new ts → LeftReads old (tokens ++ ts)

-- at the place one kind of token stands, and leads to another place
abbrev pub IsOnly : Place → Kind → Place → Type 0
IsOnly q k r = (row q ≡ (k, r) ∷ []) × (ends q ≡ false)

-- at the place a value stands, and leads to another place
abbrev pub IsValue : Place → Place → Type 0
IsValue q r = (row q ≡ (Signed, r) ∷ (Text, r) ∷ []) × (ends q ≡ false)

abbrev pub is_word_kind : Kind → Bool
is_word_kind (Word w) = true
is_word_kind k = false

-- only words stand in the row
abbrev pub all_words : List (Kind × Place) → Bool
all_words [] = true
all_words (a ∷ more) = is_word_kind a.0 && all_words more

-- at the place the kind of a column stands: INTEGER, or CHAR with its size in brackets
abbrev pub IsKind : Place → Place → Place → Place → Type 0
IsKind q size close end = (bracket : Place) × (row q ≡ (Word keyword.Integer, end) ∷ (Word keyword.Char, bracket) ∷ []) × (ends q ≡ false)
    × IsOnly bracket (Sign sign.Open) size × IsOnly size Number close × IsOnly close (Sign sign.Close) end

-- at the place a comma stands, which leads on, or the closing bracket of a statement
abbrev pub IsListEnd : Place → Place → Type 0
IsListEnd q next = (row q ≡ (Sign sign.Comma, next) ∷ (Sign sign.Close, place.StatementEnd) ∷ []) × (ends q ≡ false)

-- nothing that stands from the place on says anything
abbrev pub IsSilent : Place → Type 0
IsSilent q = (q ≡ place.Begin) ⊎ (q ≡ place.StatementEnd)

-- behind its first word, what is read says a statement
pub record IsBehind (w : Keyword) (old new : Reader) (statement : DataStatement) : Type 0 where
  pub items : List Item
  pub went : Went old new items
  pub says : says_word w ∷ items ≡ statement_items statement

-- The next token: behind a gap it has so many bytes.
pub record Next (q : Place) (e : Edge) (bytes : List ℕ) (gap n : ℕ) (k : Kind) (r : Place) : Type 0 where
  pub within : gap + n ≤ length bytes
  pub some : 0 < n
  pub stands : InRow (row q) k r
  pub is : whole k (take n (drop gap bytes)) ≡ true
  pub step : (ts : List (Kind × List ℕ)) → Reads lexicon (edge k) ts (drop (gap + n) bytes) → Reads lexicon e ((k, take n (drop gap bytes)) ∷ ts) bytes
  pub goes : From lexicon r (edge k) (drop (gap + n) bytes)
