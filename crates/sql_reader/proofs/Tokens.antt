-- The laws of the tokens.
use Rattle.std.proofs.Common.{◌≡◌, ℕ, ◌+◌, ◌*◌, ◌-◌, ◌≤◌, Bool, true, false, cond, not, ◌&&◌, ◌||◌, ◌==◌, nat_le, nat_lt, List, [], ◌∷◌, ◌++◌, ◌⊎◌, inl, inr, length, refl, sym, ◌∙◌, ap, subst, arith, length-append}
use Rattle.std.specs.List.{list_all}
use Rattle.std.proofs.lemmas.List.Folds.{list_all-append}
use Rattle.std.proofs.lemmas.List.{append-nil}
use Rattle.sql_reader.specs.declared.token.Keyword.{Keyword}
use Rattle.sql_reader.specs.declared.token.Keyword.TheVariants as keyword
use Rattle.sql_reader.specs.declared.token.Kind.{Kind}
use Rattle.sql_reader.specs.declared.token.Kind.TheVariants.{Word, Name, Number, Signed, Text, Sign, Comment}
use Rattle.sql_reader.specs.declared.reach.TextState.{TextState}
use Rattle.sql_reader.specs.declared.reach.TextState.TheVariants.{Dead, Inside, Behind}
use Rattle.sql_reader.specs.declared.token.Sign.{Sign as SignOf}
use Rattle.sql_reader.specs.declared.token.Sign.TheVariants as sign
use Rattle.sql_reader.specs.Form.{is_empty, Sound}
use Rattle.sql_reader.proofs.Form.{true_false}
use Rattle.sql_reader.specs.Tokens.{is_quote, text_step, text_scan, is_live, is_behind, is_text, begins_text, letters, is_blank, is_plain, is_letter, is_digit, is_word_byte, lower, is_name, value, greatest, is_digits, is_number, is_word, begins_word, byte_of, is_byte, is_comment, begins_comment, whole, begins, is_signed, begins_signed}
use Rattle.sql_reader.specs.Places.{lexicon}

pub left : (a b : Bool) → (a && b) ≡ true → a ≡ true
left true b h = refl
left false b h = h

pub right : (a b : Bool) → (a && b) ≡ true → b ≡ true
right true b h = h
right false b h = true_false h refl

pub both : {a b : Bool} → a ≡ true → b ≡ true → (a && b) ≡ true
both {a} {b} h k = rw h k

all_front : (f : ℕ → Bool) (p u : List ℕ) → list_all f (p ++ u) ≡ true → list_all f p ≡ true
all_front f p u h = left _ _ (sym (list_all-append f p u) ∙ h)

value_grows : (n : ℕ) (u : List ℕ) → n ≤ value n u
value_grows n [] = omega arith
value_grows n (b ∷ u) = omega (arith, value_grows (n * 10 + (b - 48)) u)

pub value_front : (n : ℕ) (p u : List ℕ) → value n p ≤ value n (p ++ u)
value_front n [] u = value_grows n u
value_front n (b ∷ p) u = value_front (n * 10 + (b - 48)) p u

le_front : (a b m : ℕ) → a ≤ b → nat_le b m ≡ true → nat_le a m ≡ true
le_front a b m h k = grind arith

word_front : (ls p u : List ℕ) → begins_word ls (p ++ u) ≡ true → begins_word ls p ≡ true
word_front ls [] u h = refl
word_front [] (b ∷ p) u h = h
word_front (l ∷ ls) (b ∷ p) u h = both (left _ _ h) (word_front ls p u (right _ _ h))

word_starts : (ls p : List ℕ) → is_word ls p ≡ true → begins_word ls p ≡ true
word_starts [] [] h = refl
word_starts [] (b ∷ p) h = h
word_starts (l ∷ ls) [] h = refl
word_starts (l ∷ ls) (b ∷ p) h = both (left _ _ h) (word_starts ls p (right _ _ h))

-- letters that stand for themselves
abbrev is_lower : ℕ → Bool
is_lower b = lower b == b

word_self : (ls : List ℕ) → list_all is_lower ls ≡ true → is_word ls ls ≡ true
word_self [] h = refl
word_self (l ∷ ls) h = both (left _ _ h) (word_self ls (right _ _ h))

word_grows : (ls p : List ℕ) → list_all is_lower ls ≡ true → begins_word ls p ≡ true → (u : List ℕ) × (is_word ls (p ++ u) ≡ true)
word_grows ls [] lows h = (ls, word_self ls lows)
word_grows [] (b ∷ p) lows h = true_false h refl
word_grows (l ∷ ls) (b ∷ p) lows h = let more = word_grows ls p (right _ _ lows) (right _ _ h) in (more.0, both (left _ _ h) more.1)

all_lower : (w : Keyword) → list_all is_lower (letters w) ≡ true
all_lower keyword.Begin = refl
all_lower keyword.Char = refl
all_lower keyword.Commit = refl
all_lower keyword.Create = refl
all_lower keyword.Delete = refl
all_lower keyword.From = refl
all_lower keyword.Insert = refl
all_lower keyword.Integer = refl
all_lower keyword.Into = refl
all_lower keyword.Key = refl
all_lower keyword.Primary = refl
all_lower keyword.Rollback = refl
all_lower keyword.Select = refl
all_lower keyword.Table = refl
all_lower keyword.Values = refl
all_lower keyword.Where = refl
all_lower keyword.Work = refl

name_front : (p u : List ℕ) → is_name (p ++ u) ≡ true → (is_empty p || is_name p) ≡ true
name_front [] u h = refl
name_front (b ∷ p) u h = both (left _ _ h) (both (all_front is_word_byte p u (left _ _ (right _ _ h))) (le_front (length p) (length (p ++ u)) 17 (omega (arith, length-append p u)) (right _ _ (right _ _ h))))

digits_front : (p u : List ℕ) → is_digits (p ++ u) ≡ true → is_digits p ≡ true
digits_front p u h = both (all_front is_digit p u (left _ _ h)) (le_front (value 0 p) (value 0 (p ++ u)) greatest (value_front 0 p u) (right _ _ h))

signed_front : (p u : List ℕ) → begins_signed (p ++ u) ≡ true → begins_signed p ≡ true
signed_front [] u h = refl
signed_front (b ∷ p) u h = either_front (b == 45) (is_digits (p ++ u)) (is_digits ((b ∷ p) ++ u)) (is_digits p) (is_digits (b ∷ p)) (digits_front p u) (digits_front (b ∷ p) u) h
  where
    either_front : (c x y z w : Bool) → (x ≡ true → z ≡ true) → (y ≡ true → w ≡ true) → cond c x y ≡ true → cond c z w ≡ true
    either_front true x y z w f g h = f h
    either_front false x y z w f g h = g h

signed_starts : (p : List ℕ) → is_signed p ≡ true → begins_signed p ≡ true
signed_starts [] h = refl
signed_starts (b ∷ p) h = less (b == 45) (not (is_empty p)) (is_digits p) (is_digits (b ∷ p)) h
  where
    less : (c x y z : Bool) → cond c (x && y) z ≡ true → cond c y z ≡ true
    less true x y z h = right x y h
    less false x y z h = h

byte_front : (c : ℕ) (p u : List ℕ) → is_byte c (p ++ u) ≡ true → (is_empty p || is_byte c p) ≡ true
byte_front c [] u h = refl
byte_front c (b ∷ []) [] h = h
byte_front c (b ∷ []) (d ∷ u) h = true_false h refl
byte_front c (b ∷ (d ∷ p)) u h = h

comment_front : (p u : List ℕ) → begins_comment (p ++ u) ≡ true → begins_comment p ≡ true
comment_front [] u h = refl
comment_front (b ∷ []) [] h = h
comment_front (b ∷ []) (d ∷ u) h = left _ _ h
comment_front (b ∷ (d ∷ p)) u h = both (left _ _ h) (both (left _ _ (right _ _ h)) (all_front is_plain p u (right _ _ (right _ _ h))))

-- texts
pub scan-append : (q : ℕ) (s : TextState) (p u : List ℕ) → text_scan q s (p ++ u) ≡ text_scan q (text_scan q s p) u
scan-append q s [] u = refl
scan-append q s (b ∷ p) u = scan-append q (text_step q s b) p u

pub scan_dead : (q : ℕ) (u : List ℕ) → text_scan q Dead u ≡ Dead
scan_dead q [] = refl
scan_dead q (b ∷ u) = scan_dead q u

scan_live : (q : ℕ) (s : TextState) (u : List ℕ) → is_live (text_scan q s u) ≡ true → is_live s ≡ true
scan_live q Dead u h = true_false h (ap is_live (scan_dead q u))
scan_live q (Inside n) u h = refl
scan_live q (Behind n) u h = refl

behind_live : (s : TextState) → is_behind s ≡ true → is_live s ≡ true
behind_live Dead h = h
behind_live (Inside n) h = refl
behind_live (Behind n) h = refl

text_front : (p u : List ℕ) → begins_text (p ++ u) ≡ true → begins_text p ≡ true
text_front [] u h = refl
text_front (q ∷ p) u h = both (left _ _ h) (scan_live q (text_scan q (Inside 0) p) u (ap is_live (sym (scan-append q (Inside 0) p u)) ∙ right _ _ h))

text_starts : (p : List ℕ) → is_text p ≡ true → begins_text p ≡ true
text_starts [] h = refl
text_starts (q ∷ p) h = both (left _ _ h) (behind_live (text_scan q (Inside 0) p) (right _ _ h))

self_is : (q : ℕ) → (q == q) ≡ true
self_is q = grind arith

ends_text : (q : ℕ) (s : TextState) → is_live s ≡ true → (u : List ℕ) × (is_behind (text_scan q s u) ≡ true)
ends_text q Dead h = true_false h refl
ends_text q (Inside n) h = (q ∷ [], ap is_behind (let e : text_step q (Inside n) q ≡ Behind n = rw (self_is q) refl in e))
ends_text q (Behind n) h = ([], refl)

text_grows : (p : List ℕ) → begins_text p ≡ true → (u : List ℕ) × (is_text (p ++ u) ≡ true)
text_grows [] h = (39 ∷ (39 ∷ []), refl)
text_grows (q ∷ p) h = let e = ends_text q (text_scan q (Inside 0) p) (right _ _ h) in (e.0, both (left _ _ h) (ap is_behind (scan-append q (Inside 0) p e.0) ∙ e.1))

-- a text that is whole goes on only by its quote sign
pub behind_next : (q b : ℕ) (s : TextState) → is_behind s ≡ true → is_live (text_step q s b) ≡ true → (b == q) ≡ true
behind_next q b Dead h k = true_false h refl
behind_next q b (Inside n) h k = true_false h refl
behind_next q b (Behind n) h k = sign_of (b == q) (nat_lt n 800) n k
  where
    sign_of : (a c : Bool) (n : ℕ) → is_live (cond (a && c) (Inside (n + 1)) Dead) ≡ true → a ≡ true
    sign_of true c n h = refl
    sign_of false c n h = true_false h refl

pub front : (k : Kind) (p u : List ℕ) → begins k (p ++ u) ≡ true → begins k p ≡ true
front (Word w) p u h = word_front (letters w) p u h
front Name [] u h = refl
front Name (b ∷ p) u h = name_front (b ∷ p) u h
front Number p u h = digits_front p u h
front Signed p u h = signed_front p u h
front Text p u h = text_front p u h
front (Sign s) [] u h = refl
front (Sign s) (b ∷ p) u h = byte_front (byte_of s) (b ∷ p) u h
front Comment p u h = comment_front p u h

comment_starts : (p : List ℕ) → is_comment p ≡ true → begins_comment p ≡ true
comment_starts [] h = refl
comment_starts (b ∷ []) h = true_false h refl
comment_starts (b ∷ (c ∷ p)) h = h

pub or_right : (a b : Bool) → b ≡ true → (a || b) ≡ true
or_right true b h = refl
or_right false b h = h

pub starts : (k : Kind) (p : List ℕ) → whole k p ≡ true → begins k p ≡ true
starts (Word w) p h = word_starts (letters w) p h
starts Name p h = or_right _ _ h
starts Number p h = right _ _ h
starts Signed p h = signed_starts p h
starts Text p h = text_starts p h
starts (Sign s) p h = or_right _ _ h
starts Comment p h = comment_starts p h

comment_grows : (p : List ℕ) → begins_comment p ≡ true → (u : List ℕ) × (is_comment (p ++ u) ≡ true)
comment_grows [] h = (45 ∷ (45 ∷ []), refl)
comment_grows (b ∷ []) h = (45 ∷ [], both h refl)
comment_grows (b ∷ (c ∷ p)) h = ([], subst (λ v. is_comment v ≡ true) (sym (append-nil (b ∷ (c ∷ p)))) h)

self_byte : (c : ℕ) → is_byte c (c ∷ []) ≡ true
self_byte c = grind arith

signed_grows : (p : List ℕ) → begins_signed p ≡ true → (u : List ℕ) × (is_signed (p ++ u) ≡ true)
unfolding greatest
signed_grows [] h = (48 ∷ [], refl)
signed_grows (b ∷ []) h = elim (b == 45) as (λ v. (b == 45) ≡ v → (u : List ℕ) × (is_signed ((b ∷ []) ++ u) ≡ true)) [
  | true ↦ λ e. (48 ∷ [], ap (λ v. cond v true (is_digits (b ∷ (48 ∷ [])))) e)
  | false ↦ λ e. ([], sym (other (b == 45) true false (is_digits (b ∷ [])) e) ∙ h)
] refl
  where
    other : (c x z y : Bool) → c ≡ false → cond c x y ≡ cond c z y
    other c x z y e = rw e refl
signed_grows (b ∷ (c ∷ p)) h = ([], subst (λ v. is_signed v ≡ true) (sym (append-nil (b ∷ (c ∷ p)))) h)

pub grows : (k : Kind) (p : List ℕ) → begins k p ≡ true → (u : List ℕ) × (whole k (p ++ u) ≡ true)
unfolding greatest
grows (Word w) p h = word_grows (letters w) p (all_lower w) h
grows Name [] h = (97 ∷ [], refl)
grows Name (b ∷ p) h = ([], subst (λ v. is_name v ≡ true) (sym (append-nil (b ∷ p))) h)
grows Number [] h = (48 ∷ [], refl)
grows Number (b ∷ p) h = ([], subst (λ v. is_number v ≡ true) (sym (append-nil (b ∷ p))) h)
grows Signed p h = signed_grows p h
grows Text p h = text_grows p h
grows (Sign s) [] h = (byte_of s ∷ [], self_byte (byte_of s))
grows (Sign s) (b ∷ p) h = ([], subst (λ v. is_byte (byte_of s) v ≡ true) (sym (append-nil (b ∷ p))) h)
grows Comment p h = comment_grows p h

word_some : (w : Keyword) → is_word (letters w) [] ≡ false
word_some keyword.Begin = refl
word_some keyword.Char = refl
word_some keyword.Commit = refl
word_some keyword.Create = refl
word_some keyword.Delete = refl
word_some keyword.From = refl
word_some keyword.Insert = refl
word_some keyword.Integer = refl
word_some keyword.Into = refl
word_some keyword.Key = refl
word_some keyword.Primary = refl
word_some keyword.Rollback = refl
word_some keyword.Select = refl
word_some keyword.Table = refl
word_some keyword.Values = refl
word_some keyword.Where = refl
word_some keyword.Work = refl

pub some : (k : Kind) → whole k [] ≡ false
some (Word w) = word_some w
some Name = refl
some Number = refl
some Signed = refl
some Text = refl
some (Sign s) = refl
some Comment = refl

pub silent : (k : Kind) → begins k [] ≡ true
silent (Word w) = refl
silent Name = refl
silent Number = grind arith
silent Signed = refl
silent Text = refl
silent (Sign s) = refl
silent Comment = refl

-- small letters
abbrev pub is_small : ℕ → Bool
is_small b = nat_le 97 b && nat_le b 122

pub all_small : (w : Keyword) → list_all is_small (letters w) ≡ true
all_small keyword.Begin = refl
all_small keyword.Char = refl
all_small keyword.Commit = refl
all_small keyword.Create = refl
all_small keyword.Delete = refl
all_small keyword.From = refl
all_small keyword.Insert = refl
all_small keyword.Integer = refl
all_small keyword.Into = refl
all_small keyword.Key = refl
all_small keyword.Primary = refl
all_small keyword.Rollback = refl
all_small keyword.Select = refl
all_small keyword.Table = refl
all_small keyword.Values = refl
all_small keyword.Where = refl
all_small keyword.Work = refl

pub small_letter : (b l : ℕ) → is_small l ≡ true → (lower b == l) ≡ true → is_letter b ≡ true
small_letter b l h k = grind arith

pub letter_byte : (b : ℕ) → is_letter b ≡ true → is_word_byte b ≡ true
letter_byte b h = grind arith

pub digit_byte : (b : ℕ) → is_digit b ≡ true → is_word_byte b ≡ true
digit_byte b h = grind arith

pub byte_solid : (b : ℕ) → is_word_byte b ≡ true → is_blank b ≡ false
byte_solid b h = grind arith

dash_solid : (b : ℕ) → ((b == 45) || is_quote b) ≡ true → is_blank b ≡ false
dash_solid b h = grind arith

pub quote_no_byte : (b : ℕ) → is_word_byte b ≡ true → is_quote b ≡ false
quote_no_byte b h = grind arith

pub quote_no_dash : (b : ℕ) → (b == 45) ≡ true → is_quote b ≡ false
quote_no_dash b h = grind arith

pub dash_no_byte : (b : ℕ) → is_word_byte b ≡ true → (b == 45) ≡ false
dash_no_byte b h = grind arith

pub word_last : (ls p : List ℕ) (b : ℕ) (u : List ℕ) → list_all is_small ls ≡ true → begins_word ls (p ++ (b ∷ u)) ≡ true → is_word_byte b ≡ true
word_last [] [] b u smalls h = true_false h refl
word_last [] (c ∷ p) b u smalls h = true_false h refl
word_last (l ∷ ls) [] b u smalls h = letter_byte b (small_letter b l (left _ _ smalls) (left _ _ h))
word_last (l ∷ ls) (c ∷ p) b u smalls h = word_last ls p b u (right _ _ smalls) (right _ _ h)

pub all_at : (f : ℕ → Bool) (p : List ℕ) (b : ℕ) (u : List ℕ) → list_all f (p ++ (b ∷ u)) ≡ true → f b ≡ true
all_at f p b u h = left _ _ (right _ _ (sym (list_all-append f p (b ∷ u)) ∙ h))

pub sign_byte : (s : SignOf) (b : ℕ) → (b == byte_of s) ≡ true → (is_word_byte b ≡ false) × (((b == 45) || is_quote b) ≡ false) × (is_blank b ≡ false)
sign_byte sign.Open b h = (grind arith, grind arith, grind arith)
sign_byte sign.Close b h = (grind arith, grind arith, grind arith)
sign_byte sign.Star b h = (grind arith, grind arith, grind arith)
sign_byte sign.Comma b h = (grind arith, grind arith, grind arith)
sign_byte sign.Semicolon b h = (grind arith, grind arith, grind arith)
sign_byte sign.Equal b h = (grind arith, grind arith, grind arith)

or_first : (a b : Bool) → a ≡ true → (a || b) ≡ true
or_first true b h = refl
or_first false b h = true_false h refl

-- the first byte of a token
pub signed_first : (b : ℕ) (u : List ℕ) → begins_signed (b ∷ u) ≡ true → ((b == 45) ≡ true) ⊎ (is_digits (b ∷ u) ≡ true)
signed_first b u h = pick (b == 45) (is_digits u) (is_digits (b ∷ u)) h
  where
    pick : (c x y : Bool) → cond c x y ≡ true → (c ≡ true) ⊎ (y ≡ true)
    pick true x y h = inl refl
    pick false x y h = inr h

pub first : (k : Kind) (b : ℕ) (u : List ℕ) → begins k (b ∷ u) ≡ true → (is_word_byte b ≡ true) ⊎ ((((b == 45) || is_quote b) ≡ true) ⊎ ((u ≡ []) × (s : SignOf) × ((b == byte_of s) ≡ true)))
first (Word w) b u h = inl (word_last (letters w) [] b u (all_small w) h)
first Name b u h = inl (letter_byte b (left _ _ h))
first Number b u h = inl (digit_byte b (left _ _ (left _ _ h)))
first Signed b u h = elim (signed_first b u h) [ inl d ↦ inr (inl (or_first (b == 45) (is_quote b) d)) | inr d ↦ inl (digit_byte b (left _ _ (left _ _ d))) ]
first Text b u h = inr (inl (or_right (b == 45) (is_quote b) (left (is_quote b) _ h)))
first (Sign s) b [] h = inr (inr (refl, s, h))
first (Sign s) b (d ∷ u) h = true_false h refl
first Comment b [] h = inr (inl (or_first (b == 45) (is_quote b) h))
first Comment b (c ∷ u) h = inr (inl (or_first (b == 45) (is_quote b) (left (b == 45) ((c == 45) && list_all is_plain u) h)))

pub solid : (k : Kind) (b : ℕ) (u : List ℕ) → begins k (b ∷ u) ≡ true → is_blank b ≡ false
solid k b u h = elim (first k b u h) [ inl w ↦ byte_solid b w | inr (inl d) ↦ dash_solid b d | inr (inr (e, s, h)) ↦ (sign_byte s b h).2 ]

pub sound : Sound lexicon
sound = record { front = front; starts = starts; grows = grows; some = some; silent = silent; solid = solid; space = refl }
