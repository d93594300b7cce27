-- The laws of the table of places.
use Rattle.std.proofs.Common.{◌≡◌, ℕ, ◌+◌, Bool, true, false, cond, not, ◌&&◌, ◌||◌, ◌==◌, nat_eq, List, [], ◌∷◌, ◌++◌, ◌⊎◌, inl, inr, refl, sym, ◌∙◌, ap, subst, arith}
use Rattle.std.specs.List.{list_all}
use Rattle.sql_reader.specs.declared.token.Keyword.TheVariants as keyword
use Rattle.sql_reader.specs.declared.token.Kind.{Kind}
use Rattle.sql_reader.specs.declared.token.Kind.TheVariants.{Word, Name, Number, Signed, Text, Sign, Comment}
use Rattle.sql_reader.specs.declared.reach.TextState.TheVariants.{Inside}
use Rattle.sql_reader.specs.declared.token.Sign.{Sign as SignOf}
use Rattle.sql_reader.specs.declared.token.Sign.TheVariants as sign
use Rattle.sql_reader.specs.declared.place.Place.{Place}
use Rattle.sql_reader.specs.declared.place.Place.TheVariants as place
use Rattle.sql_reader.specs.Form.{InRow, Runs, From, Lawful}
use Rattle.sql_reader.proofs.Form.{true_false, barred}
use Rattle.sql_reader.specs.declared.token.Edge.TheVariants.{Free, Wordy, Closed}
use Rattle.sql_reader.specs.Form.{fits, is_gap}
use Rattle.sql_reader.specs.Tokens.{is_quote, text_scan, is_live, is_text, letters, is_blank, is_letter, is_digit, is_word_byte, is_digits, is_number, is_word, begins_word, byte_of, whole, begins, clings, edge, is_signed}
use Rattle.sql_reader.specs.Places.{row, lexicon}
use Rattle.sql_reader.proofs.Tokens.{left, right, scan-append, behind_next, or_right, starts, some, is_small, all_small, small_letter, letter_byte, digit_byte, byte_solid, quote_no_byte, quote_no_dash, dash_no_byte, word_last, all_at, sign_byte, signed_first, first, sound}

abbrev differ : List ℕ → List ℕ → Bool
differ [] [] = false
differ [] (m ∷ ms) = true
differ (l ∷ ls) [] = true
differ (l ∷ ls) (m ∷ ms) = not (l == m) || differ ls ms

abbrev byte_rank : ℕ → ℕ
byte_rank b = cond (is_letter b) 0 (cond (is_digit b) 1 (cond (b == 45) 1 (cond (is_quote b) 3 (10 + b))))

abbrev rank : Kind → ℕ
rank (Word w) = 0
rank Name = 0
rank Number = 1
rank Signed = 1
rank Text = 3
rank Comment = 1
rank (Sign s) = 10 + byte_of s

abbrev differ_words : Kind → Kind → Bool
differ_words (Word a) (Word b) = differ (letters a) (letters b)
differ_words k l = false

-- no bytes are tokens of both kinds
abbrev apart : Kind → Kind → Bool
apart k l = differ_words k l || not (rank k == rank l)

abbrev apart_all : Kind → List (Kind × Place) → Bool
apart_all k [] = true
apart_all k (a ∷ more) = apart k a.0 && apart_all k more

abbrev separate : List (Kind × Place) → Bool
separate [] = true
separate (a ∷ more) = apart_all a.0 more && separate more

abbrev is_nothing : List (Kind × Place) → Bool
is_nothing [] = true
is_nothing (a ∷ more) = false

abbrev is_no_text : Kind → Bool
is_no_text Text = false
is_no_text k = true

abbrev no_text : List (Kind × Place) → Bool
no_text [] = true
no_text (a ∷ more) = is_no_text a.0 && no_text more

abbrev follows : Kind → Place → Bool
follows Comment q = is_nothing (row q)
follows Text q = no_text (row q)
follows k q = true

abbrev follow_all : List (Kind × Place) → Bool
follow_all [] = true
follow_all (a ∷ more) = follows a.0 a.1 && follow_all more

rows_separate : (q : Place) → separate (row q) ≡ true
rows_separate place.LineStart = refl
rows_separate place.StatementStart = refl
rows_separate place.LineEnd = refl
rows_separate place.StatementEnd = refl
rows_separate place.Begin = refl
rows_separate place.Create = refl
rows_separate place.CreateTable = refl
rows_separate place.CreateName = refl
rows_separate place.Column = refl
rows_separate place.ColumnKind = refl
rows_separate place.ColumnEnd = refl
rows_separate place.CharOpen = refl
rows_separate place.CharSize = refl
rows_separate place.CharClose = refl
rows_separate place.Primary = refl
rows_separate place.Next = refl
rows_separate place.NextKind = refl
rows_separate place.NextCharOpen = refl
rows_separate place.NextCharSize = refl
rows_separate place.NextCharClose = refl
rows_separate place.NextEnd = refl
rows_separate place.Insert = refl
rows_separate place.InsertInto = refl
rows_separate place.InsertName = refl
rows_separate place.InsertValues = refl
rows_separate place.Value = refl
rows_separate place.ValueEnd = refl
rows_separate place.Select = refl
rows_separate place.Rows = refl
rows_separate place.RowsFrom = refl
rows_separate place.RowsTable = refl
rows_separate place.Where = refl
rows_separate place.TermName = refl
rows_separate place.TermValue = refl

rows_follow : (q : Place) → follow_all (row q) ≡ true
rows_follow place.LineStart = refl
rows_follow place.StatementStart = refl
rows_follow place.LineEnd = refl
rows_follow place.StatementEnd = refl
rows_follow place.Begin = refl
rows_follow place.Create = refl
rows_follow place.CreateTable = refl
rows_follow place.CreateName = refl
rows_follow place.Column = refl
rows_follow place.ColumnKind = refl
rows_follow place.ColumnEnd = refl
rows_follow place.CharOpen = refl
rows_follow place.CharSize = refl
rows_follow place.CharClose = refl
rows_follow place.Primary = refl
rows_follow place.Next = refl
rows_follow place.NextKind = refl
rows_follow place.NextCharOpen = refl
rows_follow place.NextCharSize = refl
rows_follow place.NextCharClose = refl
rows_follow place.NextEnd = refl
rows_follow place.Insert = refl
rows_follow place.InsertInto = refl
rows_follow place.InsertName = refl
rows_follow place.InsertValues = refl
rows_follow place.Value = refl
rows_follow place.ValueEnd = refl
rows_follow place.Select = refl
rows_follow place.Rows = refl
rows_follow place.RowsFrom = refl
rows_follow place.RowsTable = refl
rows_follow place.Where = refl
rows_follow place.TermName = refl
rows_follow place.TermValue = refl

-- what the checks give

rank_letter : (b : ℕ) → is_letter b ≡ true → byte_rank b ≡ 0
rank_letter b h = rw h refl

digit_letter : (b : ℕ) → is_digit b ≡ true → is_letter b ≡ false
digit_letter b h = grind arith

rank_digit : (b : ℕ) → is_digit b ≡ true → byte_rank b ≡ 1
rank_digit b h = rw (digit_letter b h) (rw h refl)

rank_dash : (b : ℕ) → (b == 45) ≡ true → byte_rank b ≡ 1
rank_dash b h = grind arith

quote_else : (b : ℕ) → is_quote b ≡ true → (is_letter b ≡ false) × (is_digit b ≡ false) × ((b == 45) ≡ false)
quote_else b h = (grind arith, grind arith, grind arith)

rank_quote : (b : ℕ) → is_quote b ≡ true → byte_rank b ≡ 3
rank_quote b h = let o = quote_else b h in rw (o.0) (rw (o.1) (rw (o.2) (rw h refl)))

eq_of : (a b : ℕ) → (a == b) ≡ true → a ≡ b
eq_of a b h = grind arith

rank_byte : (s : SignOf) → byte_rank (byte_of s) ≡ 10 + byte_of s
rank_byte sign.Open = refl
rank_byte sign.Close = refl
rank_byte sign.Star = refl
rank_byte sign.Comma = refl
rank_byte sign.Semicolon = refl
rank_byte sign.Equal = refl

rank_sign : (s : SignOf) (b : ℕ) → (b == byte_of s) ≡ true → byte_rank b ≡ 10 + byte_of s
rank_sign s b h = ap byte_rank (eq_of b (byte_of s) h) ∙ rank_byte s

word_first : (ls : List ℕ) (b : ℕ) (u : List ℕ) → list_all is_small ls ≡ true → begins_word ls (b ∷ u) ≡ true → is_letter b ≡ true
word_first [] b u smalls h = true_false h refl
word_first (l ∷ ls) b u smalls h = small_letter b l (left _ _ smalls) (left _ _ h)

rank_of : (k : Kind) (b : ℕ) (u : List ℕ) → begins k (b ∷ u) ≡ true → rank k ≡ byte_rank b
rank_of (Word w) b u h = sym (rank_letter b (word_first (letters w) b u (all_small w) h))
rank_of Name b u h = sym (rank_letter b (left _ _ h))
rank_of Number b u h = sym (rank_digit b (left _ _ (left _ _ h)))
rank_of Signed b u h = elim (signed_first b u h) [ inl d ↦ sym (rank_dash b d) | inr d ↦ sym (rank_digit b (left _ _ (left _ _ d))) ]
rank_of Text b u h = sym (rank_quote b (left _ _ h))
rank_of (Sign s) b [] h = sym (rank_sign s b h)
rank_of (Sign s) b (d ∷ u) h = true_false h refl
rank_of Comment b [] h = sym (rank_dash b h)
rank_of Comment b (c ∷ u) h = sym (rank_dash b (left _ _ h))

differ_not : (ls ms p : List ℕ) → differ ls ms ≡ true → is_word ls p ≡ true → is_word ms p ≡ true → ⊥
differ_not [] [] p d h k = true_false d refl
differ_not [] (m ∷ ms) [] d h k = true_false k refl
differ_not [] (m ∷ ms) (b ∷ p) d h k = true_false h refl
differ_not (l ∷ ls) [] [] d h k = true_false h refl
differ_not (l ∷ ls) [] (b ∷ p) d h k = true_false k refl
differ_not (l ∷ ls) (m ∷ ms) [] d h k = true_false h refl
differ_not (l ∷ ls) (m ∷ ms) (b ∷ p) d h k = differ_not ls ms p (drop_not (l == m) (differ ls ms) (same_eq l m (sym (eq_of _ _ (left _ _ h)) ∙ eq_of _ _ (left _ _ k))) d) (right _ _ h) (right _ _ k)
  where
    drop_not : (a b : Bool) → a ≡ true → (not a || b) ≡ true → b ≡ true
    drop_not true b e h = h
    drop_not false b e h = true_false e refl

    same_eq : (l m : ℕ) → l ≡ m → (l == m) ≡ true
    same_eq l m e = grind arith

or_cases : (a b : Bool) → (a || b) ≡ true → (a ≡ true) ⊎ (b ≡ true)
or_cases true b h = inl h
or_cases false b h = inr h

unequal : (a b : ℕ) → not (a == b) ≡ true → a ≡ b → ⊥
unequal a b h e = grind arith

words_not : (k l : Kind) (p : List ℕ) → differ_words k l ≡ true → whole k p ≡ true → whole l p ≡ true → ⊥
words_not (Word a) (Word b) p d h i = differ_not (letters a) (letters b) p d h i
words_not (Word a) Name p d h i = true_false d refl
words_not (Word a) Number p d h i = true_false d refl
words_not (Word a) Signed p d h i = true_false d refl
words_not (Word a) Text p d h i = true_false d refl
words_not (Word a) (Sign s) p d h i = true_false d refl
words_not (Word a) Comment p d h i = true_false d refl
words_not Name l p d h i = true_false d refl
words_not Number l p d h i = true_false d refl
words_not Signed l p d h i = true_false d refl
words_not Text l p d h i = true_false d refl
words_not (Sign s) l p d h i = true_false d refl
words_not Comment l p d h i = true_false d refl

apart_not : (k l : Kind) (p : List ℕ) → apart k l ≡ true → whole k p ≡ true → whole l p ≡ true → ⊥
apart_not k l [] a h i = true_false h (some k)
apart_not k l (b ∷ u) a h i = elim (or_cases _ _ a) [
  | inl d ↦ words_not k l (b ∷ u) d h i
  | inr d ↦ unequal (rank k) (rank l) d (rank_of k b u (starts k (b ∷ u) h) ∙ sym (rank_of l b u (starts l (b ∷ u) i)))
]

apart_of : (k l : Kind) (r : Place) (rows : List (Kind × Place)) → apart_all k rows ≡ true → InRow rows l r → apart k l ≡ true
apart_of k l r [] h i = absurd i
apart_of k l r (a ∷ more) h (inl e) = subst (λ v. apart k v ≡ true) e.0 (left _ _ h)
apart_of k l r (a ∷ more) h (inr i) = apart_of k l r more (right _ _ h) i

pair : (rows : List (Kind × Place)) (k l : Kind) (r s : Place) → separate rows ≡ true → InRow rows k r → InRow rows l s → ((r ≡ s) × (k ≡ l)) ⊎ ((apart k l ≡ true) ⊎ (apart l k ≡ true))
pair [] k l r s h i j = absurd i
pair (a ∷ more) k l r s h (inl i) (inl j) = inl (sym i.1 ∙ j.1, sym i.0 ∙ j.0)
pair (a ∷ more) k l r s h (inl i) (inr j) = inr (inl (subst (λ v. apart v l ≡ true) i.0 (apart_of a.0 l s more (left _ _ h) j)))
pair (a ∷ more) k l r s h (inr i) (inl j) = inr (inr (subst (λ v. apart v k ≡ true) j.0 (apart_of a.0 k r more (left _ _ h) i)))
pair (a ∷ more) k l r s h (inr i) (inr j) = pair more k l r s (right _ _ h) i j

pub one : (q : Place) (k l : Kind) (r s : Place) → InRow (row q) k r → InRow (row q) l s → (p : List ℕ) → whole k p ≡ true → whole l p ≡ true → (r ≡ s) × (k ≡ l)
one q k l r s i j p h g = elim (pair (row q) k l r s (rows_separate q) i j) [
  | inl e ↦ e
  | inr (inl a) ↦ absurd (apart_not k l p a h g)
  | inr (inr a) ↦ absurd (apart_not l k p a g h)
]

abbrev Ending : Place → Type 0
Ending q = (ks : List Kind) × Runs lexicon q ks

end_LineStart : Ending place.LineStart
end_LineStart = ([], refl)

end_LineEnd : Ending place.LineEnd
end_LineEnd = ([], refl)

end_StatementEnd : Ending place.StatementEnd
end_StatementEnd = ([], refl)

end_Begin : Ending place.Begin
end_Begin = ([], refl)

end_StatementStart : Ending place.StatementStart
end_StatementStart = ((Word keyword.Begin) ∷ end_Begin.0, (place.Begin, inl (refl, refl), end_Begin.1))

end_ColumnEnd : Ending place.ColumnEnd
end_ColumnEnd = ((Sign sign.Close) ∷ end_StatementEnd.0, (place.StatementEnd, inr (inr (inl (refl, refl))), end_StatementEnd.1))

end_CharClose : Ending place.CharClose
end_CharClose = ((Sign sign.Close) ∷ end_ColumnEnd.0, (place.ColumnEnd, inl (refl, refl), end_ColumnEnd.1))

end_NextEnd : Ending place.NextEnd
end_NextEnd = ((Sign sign.Close) ∷ end_StatementEnd.0, (place.StatementEnd, inr (inl (refl, refl)), end_StatementEnd.1))

end_ValueEnd : Ending place.ValueEnd
end_ValueEnd = ((Sign sign.Close) ∷ end_StatementEnd.0, (place.StatementEnd, inr (inl (refl, refl)), end_StatementEnd.1))

end_TermValue : Ending place.TermValue
end_TermValue = ((Signed) ∷ end_StatementEnd.0, (place.StatementEnd, inl (refl, refl), end_StatementEnd.1))

end_ColumnKind : Ending place.ColumnKind
end_ColumnKind = ((Word keyword.Integer) ∷ end_ColumnEnd.0, (place.ColumnEnd, inl (refl, refl), end_ColumnEnd.1))

end_CharSize : Ending place.CharSize
end_CharSize = ((Number) ∷ end_CharClose.0, (place.CharClose, inl (refl, refl), end_CharClose.1))

end_Primary : Ending place.Primary
end_Primary = ((Word keyword.Key) ∷ end_NextEnd.0, (place.NextEnd, inl (refl, refl), end_NextEnd.1))

end_NextKind : Ending place.NextKind
end_NextKind = ((Word keyword.Integer) ∷ end_NextEnd.0, (place.NextEnd, inl (refl, refl), end_NextEnd.1))

end_NextCharClose : Ending place.NextCharClose
end_NextCharClose = ((Sign sign.Close) ∷ end_NextEnd.0, (place.NextEnd, inl (refl, refl), end_NextEnd.1))

end_Value : Ending place.Value
end_Value = ((Signed) ∷ end_ValueEnd.0, (place.ValueEnd, inl (refl, refl), end_ValueEnd.1))

end_TermName : Ending place.TermName
end_TermName = ((Sign sign.Equal) ∷ end_TermValue.0, (place.TermValue, inl (refl, refl), end_TermValue.1))

end_Column : Ending place.Column
end_Column = ((Name) ∷ end_ColumnKind.0, (place.ColumnKind, inl (refl, refl), end_ColumnKind.1))

end_CharOpen : Ending place.CharOpen
end_CharOpen = ((Sign sign.Open) ∷ end_CharSize.0, (place.CharSize, inl (refl, refl), end_CharSize.1))

end_Next : Ending place.Next
end_Next = ((Name) ∷ end_NextKind.0, (place.NextKind, inl (refl, refl), end_NextKind.1))

end_NextCharSize : Ending place.NextCharSize
end_NextCharSize = ((Number) ∷ end_NextCharClose.0, (place.NextCharClose, inl (refl, refl), end_NextCharClose.1))

end_InsertValues : Ending place.InsertValues
end_InsertValues = ((Sign sign.Open) ∷ end_Value.0, (place.Value, inl (refl, refl), end_Value.1))

end_Where : Ending place.Where
end_Where = ((Name) ∷ end_TermName.0, (place.TermName, inl (refl, refl), end_TermName.1))

end_CreateName : Ending place.CreateName
end_CreateName = ((Sign sign.Open) ∷ end_Column.0, (place.Column, inl (refl, refl), end_Column.1))

end_NextCharOpen : Ending place.NextCharOpen
end_NextCharOpen = ((Sign sign.Open) ∷ end_NextCharSize.0, (place.NextCharSize, inl (refl, refl), end_NextCharSize.1))

end_InsertName : Ending place.InsertName
end_InsertName = ((Word keyword.Values) ∷ end_InsertValues.0, (place.InsertValues, inl (refl, refl), end_InsertValues.1))

end_RowsTable : Ending place.RowsTable
end_RowsTable = ((Word keyword.Where) ∷ end_Where.0, (place.Where, inl (refl, refl), end_Where.1))

end_CreateTable : Ending place.CreateTable
end_CreateTable = ((Name) ∷ end_CreateName.0, (place.CreateName, inl (refl, refl), end_CreateName.1))

end_InsertInto : Ending place.InsertInto
end_InsertInto = ((Name) ∷ end_InsertName.0, (place.InsertName, inl (refl, refl), end_InsertName.1))

end_RowsFrom : Ending place.RowsFrom
end_RowsFrom = ((Name) ∷ end_RowsTable.0, (place.RowsTable, inl (refl, refl), end_RowsTable.1))

end_Create : Ending place.Create
end_Create = ((Word keyword.Table) ∷ end_CreateTable.0, (place.CreateTable, inl (refl, refl), end_CreateTable.1))

end_Insert : Ending place.Insert
end_Insert = ((Word keyword.Into) ∷ end_InsertInto.0, (place.InsertInto, inl (refl, refl), end_InsertInto.1))

end_Rows : Ending place.Rows
end_Rows = ((Word keyword.From) ∷ end_RowsFrom.0, (place.RowsFrom, inl (refl, refl), end_RowsFrom.1))

end_Select : Ending place.Select
end_Select = ((Sign sign.Star) ∷ end_Rows.0, (place.Rows, inl (refl, refl), end_Rows.1))

pub ending : (q : Place) → Ending q
ending place.LineStart = end_LineStart
ending place.StatementStart = end_StatementStart
ending place.LineEnd = end_LineEnd
ending place.StatementEnd = end_StatementEnd
ending place.Begin = end_Begin
ending place.Create = end_Create
ending place.CreateTable = end_CreateTable
ending place.CreateName = end_CreateName
ending place.Column = end_Column
ending place.ColumnKind = end_ColumnKind
ending place.ColumnEnd = end_ColumnEnd
ending place.CharOpen = end_CharOpen
ending place.CharSize = end_CharSize
ending place.CharClose = end_CharClose
ending place.Primary = end_Primary
ending place.Next = end_Next
ending place.NextKind = end_NextKind
ending place.NextCharOpen = end_NextCharOpen
ending place.NextCharSize = end_NextCharSize
ending place.NextCharClose = end_NextCharClose
ending place.NextEnd = end_NextEnd
ending place.Insert = end_Insert
ending place.InsertInto = end_InsertInto
ending place.InsertName = end_InsertName
ending place.InsertValues = end_InsertValues
ending place.Value = end_Value
ending place.ValueEnd = end_ValueEnd
ending place.Select = end_Select
ending place.Rows = end_Rows
ending place.RowsFrom = end_RowsFrom
ending place.RowsTable = end_RowsTable
ending place.Where = end_Where
ending place.TermName = end_TermName
ending place.TermValue = end_TermValue

-- a comment takes the whole line
byte_not_sign : (s : SignOf) (b : ℕ) → is_word_byte b ≡ true → (b == byte_of s) ≡ false
byte_not_sign s b h = elim (b == byte_of s) as (λ v. (b == byte_of s) ≡ v → v ≡ false) [ true ↦ λ e. true_false h (sign_byte s b e).0 | false ↦ λ e. refl ] refl

-- a second byte comes behind a first that is a letter, a digit or `-`
two : (k : Kind) (b c : ℕ) (u : List ℕ) → begins k (b ∷ (c ∷ u)) ≡ true → (is_word_byte b ≡ true) ⊎ (((b == 45) || is_quote b) ≡ true)
two k b c u h = elim (first k b (c ∷ u) h) [ inl w ↦ inl w | inr (inl d) ↦ inr d | inr (inr (e, s, i)) ↦ absurd (cc) ]

-- behind a letter or a digit only such a byte goes on
goes_on : (k : Kind) (c : ℕ) (u : List ℕ) (b : ℕ) → is_word_byte c ≡ true → begins k (c ∷ (u ++ (b ∷ []))) ≡ true → is_word_byte b ≡ true
goes_on (Word w) c u b h g = word_last (letters w) (c ∷ u) b [] (all_small w) g
goes_on Name c u b h g = all_at is_word_byte u b [] (left _ _ (right _ _ g))
goes_on Number c u b h g = digit_byte b (all_at is_digit u b [] (right _ _ (left _ _ g)))
goes_on Signed c u b h g = elim (signed_first c (u ++ (b ∷ [])) g) [ inl e ↦ true_false e (dash_no_byte c h) | inr e ↦ digit_byte b (all_at is_digit u b [] (right _ _ (left _ _ e))) ]
goes_on Text c u b h g = true_false (left _ _ g) (quote_no_byte c h)
goes_on (Sign s) c [] b h g = true_false g refl
goes_on (Sign s) c (d ∷ u) b h g = true_false g refl
goes_on Comment c [] b h g = true_false (left _ _ g) (dash_no_byte c h)
goes_on Comment c (d ∷ u) b h g = true_false (left _ _ g) (dash_no_byte c h)

and_false : (a b : Bool) → a ≡ false → (a && b) ≡ false
and_false a b h = rw h refl

not_word_start : (k : Kind) (b : ℕ) → fits (clings k) Wordy ≡ true → is_word_byte b ≡ true → begins k (b ∷ []) ≡ false
not_word_start (Word w) b f h = true_false f refl
not_word_start Name b f h = true_false f refl
not_word_start Number b f h = true_false f refl
not_word_start Signed b f h = true_false f refl
not_word_start Text b f h = and_false _ _ (quote_no_byte b h)
not_word_start (Sign s) b f h = byte_not_sign s b h
not_word_start Comment b f h = dash_no_byte b h

-- nothing that may follow a word or a number begins with a letter or a digit
wordy_end : (r : Place) (b : ℕ) (w : List ℕ) → is_word_byte b ≡ true → From lexicon r Wordy (b ∷ w) → ⊥
wordy_end r b w h f = barred lexicon sound r Wordy b w (gap_none b (byte_solid b h)) (λ k s i fit d x e. subst (λ v. begins k (v ∷ []) ≡ false) (let e1 : b ≡ d = cc in e1) (not_word_start k b fit h)) f
  where
    gap_none : (b : ℕ) → is_blank b ≡ false → is_gap is_blank Wordy (b ∷ []) ≡ false
    gap_none b h = rw h refl

follow_of : (rows : List (Kind × Place)) (k : Kind) (r : Place) → follow_all rows ≡ true → InRow rows k r → follows k r ≡ true
follow_of [] k r h i = absurd i
follow_of (a ∷ more) k r h (inl e) = subst (λ v. follows v r ≡ true) e.0 (subst (λ v. follows a.0 v ≡ true) e.1 (left _ _ h))
follow_of (a ∷ more) k r h (inr i) = follow_of more k r (right _ _ h) i

nothing_of : (rows : List (Kind × Place)) (k : Kind) (r : Place) → is_nothing rows ≡ true → InRow rows k r → ⊥
nothing_of [] k r h i = i
nothing_of (a ∷ more) k r h i = true_false h refl

comment_end : (r : Place) (b : ℕ) (w : List ℕ) → follows Comment r ≡ true → From lexicon r Closed (b ∷ w) → ⊥
comment_end r b w h f = barred lexicon sound r Closed b w refl (λ k s i fit d x e. absurd (nothing_of (row r) k s h i)) f

number_first : (c : ℕ) (p : List ℕ) → begins Number (c ∷ p) ≡ true → is_digit c ≡ true
number_first c p h = left _ _ (left _ _ h)

no_text_of : (rows : List (Kind × Place)) (k : Kind) (r : Place) → no_text rows ≡ true → InRow rows k r → is_no_text k ≡ true
no_text_of [] k r h i = absurd i
no_text_of (a ∷ more) k r h (inl e) = subst (λ v. is_no_text v ≡ true) e.0 (left _ _ h)
no_text_of (a ∷ more) k r h (inr i) = no_text_of more k r (right _ _ h) i

quote_solid : (b : ℕ) → is_quote b ≡ true → is_blank b ≡ false
quote_solid b h = grind arith

quote_signs : (s : SignOf) (b : ℕ) → is_quote b ≡ true → (b == byte_of s) ≡ false
quote_signs s b h = elim (b == byte_of s) as (λ v. (b == byte_of s) ≡ v → v ≡ false) [ true ↦ λ e. true_false (or_right (b == 45) (is_quote b) h) (sign_byte s b e).1 | false ↦ λ e. refl ] refl

quote_letter : (b : ℕ) → is_quote b ≡ true → is_word_byte b ≡ false
quote_letter b h = grind arith

-- only a text begins with a quote sign
not_text_start : (k : Kind) (b : ℕ) → is_no_text k ≡ true → is_quote b ≡ true → begins k (b ∷ []) ≡ false
not_text_start k b n h = elim (begins k (b ∷ [])) as (λ v. begins k (b ∷ []) ≡ v → v ≡ false) [ false ↦ λ e. refl | true ↦ λ e. absurd (quote_rank k b n h (rank_of k b [] e)) ] refl
  where
    quote_rank : (k : Kind) (b : ℕ) → is_no_text k ≡ true → is_quote b ≡ true → rank k ≡ byte_rank b → ⊥
    quote_rank (Word w) b n h e = three 0 (e ∙ rank_quote b h) refl
      where
        three : (m : ℕ) → m ≡ 3 → nat_eq m 3 ≡ false → ⊥
        three m e f = grind arith
    quote_rank Name b n h e = absurd (let f : 0 ≡ 3 = e ∙ rank_quote b h in omega (arith, f))
    quote_rank Number b n h e = absurd (let f : 1 ≡ 3 = e ∙ rank_quote b h in omega (arith, f))
    quote_rank Text b n h e = true_false n refl
    quote_rank (Sign s) b n h e = absurd (let f : 10 + byte_of s ≡ 3 = e ∙ rank_quote b h in omega (arith, f))
    quote_rank Signed b n h e = absurd (let f : 1 ≡ 3 = e ∙ rank_quote b h in omega (arith, f))
    quote_rank Comment b n h e = absurd (let f : 1 ≡ 3 = e ∙ rank_quote b h in omega (arith, f))

text_end : (r : Place) (b : ℕ) (w : List ℕ) → follows Text r ≡ true → is_quote b ≡ true → From lexicon r Free (b ∷ w) → ⊥
text_end r b w h p f = barred lexicon sound r Free b w (gap_none b (quote_solid b p)) (λ k s i fit d x e. subst (λ v. begins k (v ∷ []) ≡ false) (let e1 : b ≡ d = cc in e1) (not_text_start k b (no_text_of (row r) k s h i) p)) f
  where
    gap_none : (b : ℕ) → is_blank b ≡ false → is_gap is_blank Free (b ∷ []) ≡ false
    gap_none b h = rw h refl

-- what goes on behind a quote sign is a text
quote_on : (k : Kind) (c : ℕ) (u : List ℕ) → is_quote c ≡ true → begins k (c ∷ u) ≡ true → begins Text (c ∷ u) ≡ true
quote_on (Word w) c u h g = true_false (word_last (letters w) [] c u (all_small w) g) (quote_letter c h)
quote_on Name c u h g = true_false (letter_byte c (left _ _ g)) (quote_letter c h)
quote_on Number c u h g = true_false (digit_byte c (left _ _ (left _ _ g))) (quote_letter c h)
quote_on Signed c u h g = elim (signed_first c u g) [ inl e ↦ true_false h (quote_no_dash c e) | inr e ↦ true_false (digit_byte c (left _ _ (left _ _ e))) (quote_letter c h) ]
quote_on Text c u h g = g
quote_on (Sign s) c [] h g = true_false g (quote_signs s c h)
quote_on (Sign s) c (d ∷ u) h g = true_false g refl
quote_on Comment c [] h g = true_false h (quote_no_dash c g)
quote_on Comment c (d ∷ u) h g = true_false h (quote_no_dash c (left _ _ g))

text_goes : (c : ℕ) (p : List ℕ) (b : ℕ) → is_text (c ∷ p) ≡ true → begins Text (c ∷ (p ++ (b ∷ []))) ≡ true → is_quote b ≡ true
text_goes c p b h g = subst (λ v. is_quote v ≡ true) (sym (eq_of b c (behind_next c b (text_scan c (Inside 0) p) (right _ _ h) (ap is_live (sym (scan-append c (Inside 0) p (b ∷ []))) ∙ right _ _ g)))) (left _ _ h)

clash_word : (q : Place) (k l : Kind) (r : Place) (c : ℕ) (p : List ℕ) (b : ℕ) (w : List ℕ) → is_word_byte c ≡ true → begins l (c ∷ (p ++ (b ∷ []))) ≡ true → From lexicon r Wordy (b ∷ w) → ⊥
clash_word q k l r c p b w h g f = wordy_end r b w (goes_on l c p b h g) f

-- behind `-` and a digit only a digit goes on
signed_on : (k : Kind) (c d : ℕ) (u : List ℕ) (b : ℕ) → (c == 45) ≡ true → is_digit d ≡ true → begins k (c ∷ (d ∷ (u ++ (b ∷ [])))) ≡ true → is_word_byte b ≡ true
signed_on (Word w) c d u b h e g = true_false h (dash_no_byte c (word_last (letters w) [] c (d ∷ (u ++ (b ∷ []))) (all_small w) g))
signed_on Name c d u b h e g = true_false h (dash_no_byte c (letter_byte c (left _ _ g)))
signed_on Number c d u b h e g = true_false h (dash_no_byte c (digit_byte c (left _ _ (left _ _ g))))
signed_on Signed c d u b h e g = digit_byte b (all_at is_digit (d ∷ u) b [] (left _ _ (behind (c == 45) (is_digits (d ∷ (u ++ (b ∷ [])))) _ h g)))
  where
    behind : (c x y : Bool) → c ≡ true → cond c x y ≡ true → x ≡ true
    behind true x y e h = h
    behind false x y e h = true_false e refl
signed_on Text c d u b h e g = true_false (left _ _ g) (quote_no_dash c h)
signed_on (Sign s) c d u b h e g = true_false g refl
signed_on Comment c d u b h e g = true_false (left _ _ (right _ _ g)) (dash_no_byte d (digit_byte d e))

number_some : (d : ℕ) (p : List ℕ) → is_number (d ∷ p) ≡ true → is_digit d ≡ true
number_some d p h = left _ _ (left _ _ h)

signed_cases : (c : ℕ) (p : List ℕ) → is_signed (c ∷ p) ≡ true → (((c == 45) ≡ true) × (is_number p ≡ true)) ⊎ (is_digits (c ∷ p) ≡ true)
signed_cases c p h = pick (c == 45) (is_number p) (is_digits (c ∷ p)) h
  where
    pick : (c x y : Bool) → cond c x y ≡ true → ((c ≡ true) × (x ≡ true)) ⊎ (y ≡ true)
    pick true x y h = inl (refl, h)
    pick false x y h = inr h

clash_dash : (l : Kind) (r : Place) (c : ℕ) (p : List ℕ) (b : ℕ) (w : List ℕ) → (c == 45) ≡ true → is_number p ≡ true → begins l (c ∷ (p ++ (b ∷ []))) ≡ true → From lexicon r Wordy (b ∷ w) → ⊥
clash_dash l r c [] b w e h g f = true_false h refl
clash_dash l r c (d ∷ p) b w e h g f = wordy_end r b w (signed_on l c d p b e (number_some d p h) g) f

pub clash : (q : Place) (k l : Kind) (r s : Place) → InRow (row q) k r → InRow (row q) l s → (p : List ℕ) (b : ℕ) (w : List ℕ) → whole k p ≡ true → begins l (p ++ (b ∷ [])) ≡ true → From lexicon r (edge k) (b ∷ w) → ⊥
clash q k l r s i j [] b w h g f = true_false h (some k)
clash q (Word a) l r s i j (c ∷ p) b w h g f = clash_word q (Word a) l r c p b w (letter_byte c (word_first (letters a) c p (all_small a) (starts (Word a) (c ∷ p) h))) g f
clash q Name l r s i j (c ∷ p) b w h g f = clash_word q Name l r c p b w (letter_byte c (left _ _ h)) g f
clash q Number l r s i j (c ∷ p) b w h g f = clash_word q Number l r c p b w (digit_byte c (number_first c p (starts Number (c ∷ p) h))) g f
clash q Signed l r s i j (c ∷ p) b w h g f = elim (signed_cases c p h) [
  | inl e ↦ clash_dash l r c p b w e.0 e.1 g f
  | inr e ↦ clash_word q Signed l r c p b w (digit_byte c (left _ _ (left _ _ e))) g f
]
clash q Text l r s i j (c ∷ p) b w h g f = text_end r b w (follow_of (row q) Text r (rows_follow q) i) (text_goes c p b h (quote_on l c (p ++ (b ∷ [])) (left _ _ h) g)) f
clash q (Sign t) l r s i j (c ∷ []) b w h g f = elim (two l c b [] g) [ inl e ↦ true_false e (sign_byte t c h).0 | inr e ↦ true_false e (sign_byte t c h).1 ]
clash q (Sign t) l r s i j (c ∷ (d ∷ p)) b w h g f = true_false h refl
clash q Comment l r s i j p b w h g f = comment_end r b w (follow_of (row q) Comment r (rows_follow q) i) f

pub laws : Lawful lexicon
laws = record { sound = sound; one = one; clash = clash; ending = ending }
