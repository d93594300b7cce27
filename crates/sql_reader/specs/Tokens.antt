-- The tokens of the language, by their bytes.
use Rattle.std.specs.Prelude.{ℕ, ◌+◌, ◌*◌, ◌-◌, Bool, true, false, cond, not, ◌&&◌, ◌||◌, ◌==◌, nat_le, nat_lt, List, [], ◌∷◌, length, codes}
use Rattle.std.specs.List.{list_all}
use Rattle.ids_base.specs.Texts.{is_printable}
use Rattle.sql_reader.specs.declared.token.Edge.{Edge}
use Rattle.sql_reader.specs.declared.token.Edge.TheVariants.{Free, Wordy, Closed}
use Rattle.sql_reader.specs.declared.token.Keyword.{Keyword}
use Rattle.sql_reader.specs.declared.token.Keyword.TheVariants as keyword
use Rattle.sql_reader.specs.declared.token.Kind.{Kind}
use Rattle.sql_reader.specs.declared.token.Kind.TheVariants.{Word, Name, Number, Signed, Text, Sign, Comment}
use Rattle.sql_reader.specs.declared.token.Sign.{Sign as SignOf}
use Rattle.sql_reader.specs.declared.token.Sign.TheVariants as sign
use Rattle.sql_reader.specs.declared.reach.TextState.{TextState}
use Rattle.sql_reader.specs.declared.reach.TextState.TheVariants.{Dead, Inside, Behind}
use Rattle.sql_reader.specs.Form.{is_empty}

-- the letters of a word, in lower case
abbrev pub letters : Keyword → List ℕ
letters keyword.Begin = codes "begin"
letters keyword.Char = codes "char"
letters keyword.Commit = codes "commit"
letters keyword.Create = codes "create"
letters keyword.Delete = codes "delete"
letters keyword.From = codes "from"
letters keyword.Insert = codes "insert"
letters keyword.Integer = codes "integer"
letters keyword.Into = codes "into"
letters keyword.Key = codes "key"
letters keyword.Primary = codes "primary"
letters keyword.Rollback = codes "rollback"
letters keyword.Select = codes "select"
letters keyword.Table = codes "table"
letters keyword.Values = codes "values"
letters keyword.Where = codes "where"
letters keyword.Work = codes "work"

abbrev pub is_blank : ℕ → Bool
is_blank b = (b == 32) || ((b == 9) || (b == 13))

-- what a comment holds
abbrev pub is_plain : ℕ → Bool
is_plain b = (nat_le 32 b && nat_le b 126) || ((b == 9) || (b == 13))

abbrev pub is_capital : ℕ → Bool
is_capital b = nat_le 65 b && nat_le b 90

abbrev pub is_letter : ℕ → Bool
is_letter b = (nat_le 97 b && nat_le b 122) || (is_capital b || (b == 95))

abbrev pub is_digit : ℕ → Bool
is_digit b = nat_le 48 b && nat_le b 57

abbrev pub is_word_byte : ℕ → Bool
is_word_byte b = is_letter b || is_digit b

abbrev pub lower : ℕ → ℕ
lower b = cond (is_capital b) (b + 32) b

-- a letter or `_`, then letters, digits and `_`, 1 to 18 bytes
abbrev pub is_name : List ℕ → Bool
is_name [] = false
is_name (b ∷ bs) = is_letter b && (list_all is_word_byte bs && nat_le (length bs) 17)

-- decimal digits
abbrev pub value : ℕ → List ℕ → ℕ
value n [] = n
value n (b ∷ bs) = value (n * 10 + (b - 48)) bs

unfoldable pub greatest : ℕ
greatest = 2147483647

-- digits with a value of at most 2147483647
abbrev pub is_digits : List ℕ → Bool
is_digits bs = list_all is_digit bs && nat_le (value 0 bs) greatest

abbrev pub is_number : List ℕ → Bool
is_number bs = not (is_empty bs) && is_digits bs

-- a number with an optional `-` right before it
abbrev pub is_signed : List ℕ → Bool
is_signed [] = false
is_signed (b ∷ bs) = cond (b == 45) (is_number bs) (is_digits (b ∷ bs))

abbrev pub begins_signed : List ℕ → Bool
begins_signed [] = true
begins_signed (b ∷ bs) = cond (b == 45) (is_digits bs) (is_digits (b ∷ bs))

-- a word, without regard to case
abbrev pub is_word : List ℕ → List ℕ → Bool
is_word [] [] = true
is_word [] (b ∷ bs) = false
is_word (l ∷ ls) [] = false
is_word (l ∷ ls) (b ∷ bs) = (lower b == l) && is_word ls bs

-- the front of one
abbrev pub begins_word : List ℕ → List ℕ → Bool
begins_word ls [] = true
begins_word [] (b ∷ bs) = false
begins_word (l ∷ ls) (b ∷ bs) = (lower b == l) && begins_word ls bs

abbrev pub byte_of : SignOf → ℕ
byte_of sign.Open = 40
byte_of sign.Close = 41
byte_of sign.Star = 42
byte_of sign.Comma = 44
byte_of sign.Semicolon = 59
byte_of sign.Equal = 61

abbrev pub is_byte : ℕ → List ℕ → Bool
is_byte c [] = false
is_byte c (b ∷ []) = b == c
is_byte c (b ∷ (d ∷ bs)) = false

-- `--`, then anything up to the end of the line
abbrev pub is_comment : List ℕ → Bool
is_comment [] = false
is_comment (b ∷ []) = false
is_comment (b ∷ (c ∷ bs)) = (b == 45) && ((c == 45) && list_all is_plain bs)

abbrev pub begins_comment : List ℕ → Bool
begins_comment [] = true
begins_comment (b ∷ []) = b == 45
begins_comment (b ∷ (c ∷ bs)) = (b == 45) && ((c == 45) && list_all is_plain bs)

abbrev pub is_quote : ℕ → Bool
is_quote b = (b == 39) || (b == 34)

-- a text's next byte; q is its quote sign
abbrev pub text_step : ℕ → TextState → ℕ → TextState
text_step q Dead b = Dead
text_step q (Inside n) b = cond (b == q) (Behind n) (cond (is_printable b && nat_lt n 800) (Inside (n + 1)) Dead)
text_step q (Behind n) b = cond ((b == q) && nat_lt n 800) (Inside (n + 1)) Dead

abbrev pub text_scan : ℕ → TextState → List ℕ → TextState
text_scan q s [] = s
text_scan q s (b ∷ bs) = text_scan q (text_step q s b) bs

abbrev pub is_live : TextState → Bool
is_live Dead = false
is_live (Inside n) = true
is_live (Behind n) = true

abbrev pub is_behind : TextState → Bool
is_behind Dead = false
is_behind (Inside n) = false
is_behind (Behind n) = true

-- a quote sign, at most 800 printable bytes with that sign written twice, and the sign again
abbrev pub is_text : List ℕ → Bool
is_text [] = false
is_text (q ∷ bs) = is_quote q && is_behind (text_scan q (Inside 0) bs)

abbrev pub begins_text : List ℕ → Bool
begins_text [] = true
begins_text (q ∷ bs) = is_quote q && is_live (text_scan q (Inside 0) bs)

-- the bytes are a token of the kind
abbrev pub whole : Kind → List ℕ → Bool
whole (Word w) p = is_word (letters w) p
whole Name p = is_name p
whole Number p = is_number p
whole Signed p = is_signed p
whole Text p = is_text p
whole (Sign s) p = is_byte (byte_of s) p
whole Comment p = is_comment p

-- a token of the kind begins so
abbrev pub begins : Kind → List ℕ → Bool
begins (Word w) p = begins_word (letters w) p
begins Name p = is_empty p || is_name p
begins Number p = is_digits p
begins Signed p = begins_signed p
begins Text p = begins_text p
begins (Sign s) p = is_empty p || is_byte (byte_of s) p
begins Comment p = begins_comment p

-- words, names and numbers do not stand right behind one another
abbrev pub clings : Kind → Bool
clings (Word w) = true
clings Name = true
clings Number = true
clings Signed = true
clings Text = false
clings (Sign s) = false
clings Comment = false

abbrev pub edge : Kind → Edge
edge (Word w) = Wordy
edge Name = Wordy
edge Number = Wordy
edge Signed = Wordy
edge Text = Free
edge (Sign s) = Free
edge Comment = Closed
