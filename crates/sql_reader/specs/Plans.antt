-- What a statement's tokens say, and what a plan says.
use Rattle.std.specs.Prelude.{◌≡◌, ℕ, ℤ, pos, neg_ℤ, Bool, true, false, cond, ◌==◌, nat_le, List, [], ◌∷◌, ◌++◌, get_or, map}
use Rattle.ids_base.specs.declared.plan.Comparison.{Comparison}
use Rattle.ids_base.specs.declared.plan.Comparison.TheVariants.{Equal}
use Rattle.ids_base.specs.declared.plan.Term.{Term}
use Rattle.ids_base.specs.declared.plan.DataStatement.{DataStatement}
use Rattle.ids_base.specs.declared.plan.DataStatement.TheVariants.{CreateTable, Insert, Select, Delete}
use Rattle.ids_base.specs.declared.plan.Plan.{Plan}
use Rattle.ids_base.specs.declared.plan.Plan.TheVariants.{Data, Begin, Commit, Rollback}
use Rattle.ids_base.specs.declared.shape.Kind.{Kind as ColumnKind}
use Rattle.ids_base.specs.declared.shape.Kind.TheVariants.{Integer, Char}
use Rattle.ids_base.specs.declared.shape.Column.{Column}
use Rattle.ids_base.specs.declared.value.Value.{Value}
use Rattle.ids_base.specs.declared.value.Value.TheVariants.{Int, Chars}
use Rattle.ids_base.specs.Texts.{trimmed}
use Rattle.sql_reader.specs.declared.token.Keyword.{Keyword}
use Rattle.sql_reader.specs.declared.token.Keyword.TheVariants as keyword
use Rattle.sql_reader.specs.declared.token.Sign.{Sign as SignOf}
use Rattle.sql_reader.specs.declared.token.Sign.TheVariants as sign
use Rattle.sql_reader.specs.declared.token.Kind.{Kind}
use Rattle.sql_reader.specs.declared.token.Kind.TheVariants.{Word, Name, Number, Signed, Text, Sign, Comment}
use Rattle.sql_reader.specs.Tokens.{lower, value}
use Rattle.sql_reader.specs.Grammar.{IsReading}
use Rattle.sql_reader.specs.Lines.{texts_of}

-- what a token says
pub data Item : Type 0 where
  says_word : Keyword → Item
  says_all : Item
  says_comparison : Comparison → Item
  says_name : List ℕ → Item
  says_size : ℕ → Item
  says_number : ℤ → Item
  says_text : List ℕ → Item

-- the value of digits with an optional `-` before them
abbrev pub signed_value : List ℕ → ℤ
signed_value [] = pos 0
signed_value (b ∷ bs) = cond (b == 45) (neg_ℤ (pos (value 0 bs))) (pos (value 0 (b ∷ bs)))

-- the size of a CHAR column; one that is greater than any size is 0, which is as bad a shape
abbrev pub size_of : ℕ → ℕ
size_of n = cond (nat_le n 65535) n 0

-- behind the first quote sign q: a sign ends the text, or is written twice
abbrev pub unquoted : ℕ → Bool → List ℕ → List ℕ
unquoted q seen [] = []
unquoted q true (b ∷ bs) = b ∷ unquoted q false bs
unquoted q false (b ∷ bs) = cond (b == q) (unquoted q true bs) (b ∷ unquoted q false bs)

-- the value of a text in quotes
abbrev pub text_value : List ℕ → List ℕ
text_value [] = []
text_value (q ∷ bs) = unquoted q false bs

-- WORK, PRIMARY and KEY say nothing
abbrev pub word_items : Keyword → List Item
word_items keyword.Work = []
word_items keyword.Primary = []
word_items keyword.Key = []
word_items w = says_word w ∷ []

-- brackets, commas and `;` say nothing beside the grammar
abbrev pub sign_items : SignOf → List Item
sign_items sign.Star = says_all ∷ []
sign_items sign.Equal = says_comparison Equal ∷ []
sign_items s = []

-- what a token says; a name is in lower case, a text has no spaces at its end
abbrev pub token_items : Kind → List ℕ → List Item
token_items (Word w) bytes = word_items w
token_items Name bytes = says_name (map lower bytes) ∷ []
token_items Number bytes = says_size (size_of (value 0 bytes)) ∷ []
token_items Signed bytes = says_number (signed_value bytes) ∷ []
token_items Text bytes = says_text (trimmed (text_value bytes)) ∷ []
token_items (Sign s) bytes = sign_items s
token_items Comment bytes = []

abbrev pub items_of_tokens : List (Kind × List ℕ) → List Item
items_of_tokens [] = []
items_of_tokens (t ∷ ts) = token_items t.0 t.1 ++ items_of_tokens ts

abbrev pub value_item : Value → Item
value_item (Int n) = says_number n
value_item (Chars bytes) = says_text bytes

abbrev pub kind_items : ColumnKind → List Item
kind_items Integer = says_word keyword.Integer ∷ []
kind_items (Char n) = says_word keyword.Char ∷ says_size n ∷ []

abbrev pub column_items : Column → List Item
column_items column = says_name column.name ∷ kind_items column.kind

abbrev pub shape_items : List Column → List Item
shape_items [] = []
shape_items (column ∷ shape) = column_items column ++ shape_items shape

abbrev pub row_items : List Value → List Item
row_items row = map value_item row

abbrev pub term_items : Term → List Item
term_items term = says_name term.column ∷ says_comparison term.comparison ∷ value_item term.value ∷ []

abbrev pub all_term_items : List Term → List Item
all_term_items [] = []
all_term_items (term ∷ terms) = term_items term ++ all_term_items terms

abbrev pub condition_items : List Term → List Item
condition_items [] = []
condition_items (term ∷ terms) = says_word keyword.Where ∷ all_term_items (term ∷ terms)

-- a statement over tables, one line a kind
abbrev pub statement_items : DataStatement → List Item
statement_items (CreateTable table shape) = says_word keyword.Create ∷ says_word keyword.Table ∷ says_name table ∷ shape_items shape
statement_items (Insert table row) = says_word keyword.Insert ∷ says_word keyword.Into ∷ says_name table ∷ says_word keyword.Values ∷ row_items row
statement_items (Select table condition) = says_word keyword.Select ∷ says_all ∷ says_word keyword.From ∷ says_name table ∷ condition_items condition
statement_items (Delete table condition) = says_word keyword.Delete ∷ says_word keyword.From ∷ says_name table ∷ condition_items condition

abbrev pub items_of_plan : Plan → List Item
items_of_plan (Data statement) = statement_items statement
items_of_plan Begin = says_word keyword.Begin ∷ []
items_of_plan Commit = says_word keyword.Commit ∷ []
items_of_plan Rollback = says_word keyword.Rollback ∷ []

-- THE PLAN OF A STATEMENT says what a reading of its text says.
abbrev pub IsPlanOf : List ℕ → Plan → Type 0
IsPlanOf text plan = (ts : List (Kind × List ℕ)) × IsReading text ts × (items_of_tokens ts ≡ items_of_plan plan)

-- two lists correspond place by place
abbrev pub Each : {A B : Type 0} → (A → B → Type 0) → List A → List B → Type 0
Each R [] [] = Unit {0}
Each R [] (y ∷ ys) = ⊥
Each R (x ∷ xs) [] = ⊥
Each R (x ∷ xs) (y ∷ ys) = R x y × Each R xs ys

-- THE SCRIPT OF SOME BYTES has the plans of their statements, phase by phase and session by session.
abbrev pub IsScriptOf : List ℕ → List (List (List Plan)) → Type 0
IsScriptOf bytes script = Each (Each (Each IsPlanOf)) (texts_of bytes) script

-- the plans of a session, counted from 0; none at a place that is not there
abbrev pub plans_in : List (List (List Plan)) → ℕ → ℕ → List Plan
plans_in script phase session = get_or (get_or script phase []) session []
