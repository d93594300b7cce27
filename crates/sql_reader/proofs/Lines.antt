-- Lines of a script, one after another.
use Rattle.std.proofs.Common.{◌≡◌, ℕ, ◌+◌, ◌-◌, ◌≤◌, ◌<◌, Bool, true, false, cond, not, ◌==◌, nat_le, nat_lt, List, [], ◌∷◌, ◌++◌, inl, inr, length, refl, sym, ◌∙◌, ap, subst, append_assoc, arith, length-drop, take, drop, get_or}
use Rattle.std.specs.List.{list_all, filter}
use Rattle.std.proofs.lemmas.List.Folds.{list_all-append}
use Rattle.std.proofs.lemmas.List.Elements.{filter-append}
use Rattle.std.proofs.lemmas.List.{take-append-drop, length-take-le, append-nil, take_all}
use Rattle.std.proofs.Math.Seq.{drop-drop}
use Rattle.sql_reader.specs.declared.token.Kind.{Kind}
use Rattle.sql_reader.specs.declared.token.Kind.TheVariants.{Comment}
use Rattle.sql_reader.specs.declared.token.Edge.TheVariants.{Free}
use Rattle.sql_reader.specs.declared.script.Span.{Span}
use Rattle.sql_reader.specs.Form.{Spelled}
use Rattle.sql_reader.specs.Tokens.{is_blank, is_comment}
use Rattle.sql_reader.specs.Places.{lexicon}
use Rattle.sql_reader.specs.Grammar.{IsLine, IsStatementText}
use Rattle.sql_reader.specs.Lines.{before_first, lines_of, AreLines, InGrammar, start_behind, IsBadAt, is_statement_line, statements_of, lines_left}
use Rattle.sql_reader.specs.Checks.{text_at, texts_at, IsSpan, AreSpans}
use Rattle.sql_reader.proofs.Form.{true_false}
use Rattle.sql_reader.proofs.Tokens.{left, right, both}
use Rattle.sql_reader.proofs.Steps.{take_next}
use Rattle.sql_reader.proofs.Stands.{drop_next, all_of}

abbrev pub no_newline : ℕ → Bool
no_newline b = not (b == 10)

cond_not : {A : Type 0} (c : Bool) (x y : A) → not c ≡ true → cond c x y ≡ y
cond_not true x y h = true_false h refl
cond_not false x y h = refl

cond_true : {A : Type 0} (c : Bool) (x y : A) → c ≡ true → cond c x y ≡ x
cond_true c x y h = rw h refl

cond_false : {A : Type 0} (c : Bool) (x y : A) → c ≡ false → cond c x y ≡ y
cond_false c x y h = rw h refl

line_more : (b : ℕ) (bs : List ℕ) → no_newline b ≡ true → lines_of (b ∷ bs) ≡ before_first b (lines_of bs)
line_more b bs h = cond_not (b == 10) ([] ∷ lines_of bs) (before_first b (lines_of bs)) h

line_cut : (p u : List ℕ) → list_all no_newline p ≡ true → lines_of (p ++ (10 ∷ u)) ≡ p ∷ lines_of u
line_cut [] u h = refl
line_cut (b ∷ p) u h = line_more b (p ++ (10 ∷ u)) (left _ _ h) ∙ ap (before_first b) (line_cut p u (right _ _ h))

line_last : (p : List ℕ) → list_all no_newline p ≡ true → lines_of p ≡ p ∷ []
line_last [] h = refl
line_last (b ∷ p) h = line_more b p (left _ _ h) ∙ ap (before_first b) (line_last p (right _ _ h))

-- one more byte of a line
pub line_grows : (rest : List ℕ) (n : ℕ) → list_all no_newline (take n rest) ≡ true → n < length rest → no_newline (get_or rest n 0) ≡ true → list_all no_newline (take (n + 1) rest) ≡ true
line_grows rest n h a b = ap (list_all no_newline) (take_next n rest a) ∙ list_all-append no_newline (take n rest) (get_or rest n 0 ∷ []) ∙ both h (both b refl)

le_next : (n m : ℕ) → n < m → nat_le (n + 1) m ≡ true
le_next n m h = grind arith

le_past : (n m : ℕ) → m ≤ n → nat_le (n + 1) m ≡ false
le_past n m h = grind arith

first_split : (rest : List ℕ) (n : ℕ) → n ≤ length rest → list_all no_newline (take n rest) ≡ true → (n < length rest → get_or rest n 0 ≡ 10) → lines_of rest ≡ take n rest ∷ lines_left rest (n + 1)
first_split rest n a h e = elim (nat_lt n (length rest)) as (λ t. nat_lt n (length rest) ≡ t → lines_of rest ≡ take n rest ∷ lines_left rest (n + 1)) [
  | true ↦ λ f. let b : n < length rest = grind arith in
      ap lines_of (sym (take-append-drop n rest) ∙ ap (λ v. take n rest ++ v) (drop_next n rest b ∙ ap (λ v. v ∷ drop (n + 1) rest) (e b)))
      ∙ line_cut (take n rest) (drop (n + 1) rest) h
      ∙ ap (λ v. take n rest ∷ v) (sym (cond_true (nat_le (n + 1) (length rest)) (lines_of (drop (n + 1) rest)) [] (le_next n (length rest) b)))
  | false ↦ λ f. let b : length rest ≤ n = grind arith in
      ap lines_of (sym (take_all n rest b)) ∙ line_last (take n rest) h
      ∙ ap (λ v. take n rest ∷ v) (sym (cond_false (nat_le (n + 1) (length rest)) (lines_of (drop (n + 1) rest)) [] (le_past n (length rest) b)))
] refl

-- the first line of some bytes
pub record IsFirst (rest line : List ℕ) : Type 0 where
  pub first : lines_of rest ≡ line ∷ lines_left rest (length line + 1)
  pub front : line ≡ take (length line) rest
  pub within : length line ≤ length rest

pub first_of : (rest line : List ℕ) (n : ℕ) → n ≤ length rest → list_all no_newline (take n rest) ≡ true → (n < length rest → get_or rest n 0 ≡ 10) → line ≡ take n rest → IsFirst rest line
first_of rest line n a h e is =
    let size : length line ≡ n = ap length is ∙ length-take-le n rest a in
    record {
      first = first_split rest n a h e ∙ ap (λ v. v ∷ lines_left rest (n + 1)) (sym is) ∙ ap (λ m. line ∷ lines_left rest (m + 1)) (sym size);
      front = is ∙ ap (λ m. take m rest) (sym size);
      within = omega (arith, size, a);
    }

left_by : (bytes : List ℕ) (start m : ℕ) → start ≤ length bytes → lines_left (drop start bytes) m ≡ lines_left bytes (start + m)
left_by bytes start m h = ap (λ t. cond t (lines_of (drop m (drop start bytes))) []) (same_test bytes start m h) ∙ ap (λ v. cond (nat_le (start + m) (length bytes)) (lines_of v) []) (drop-drop m start bytes)
  where
    same_test : (bytes : List ℕ) (start m : ℕ) → start ≤ length bytes → nat_le m (length (drop start bytes)) ≡ nat_le (start + m) (length bytes)
    same_test bytes start m h = ap (λ v. nat_le m v) (length-drop start bytes) ∙ by_size (length bytes) start m h
      where
        by_size : (l start m : ℕ) → start ≤ l → nat_le m (l - start) ≡ nat_le (start + m) l
        by_size l start m h = grind arith

left_here : (bytes : List ℕ) (start : ℕ) → start ≤ length bytes → lines_left bytes start ≡ lines_of (drop start bytes)
left_here bytes start h = cond_true (nat_le start (length bytes)) (lines_of (drop start bytes)) [] (grind arith)

left_none : (bytes : List ℕ) (start : ℕ) → length bytes < start → lines_left bytes start ≡ []
left_none bytes start h = cond_false (nat_le start (length bytes)) (lines_of (drop start bytes)) [] (grind arith)

left_next : (bytes line : List ℕ) (start : ℕ) → start ≤ length bytes → IsFirst (drop start bytes) line → lines_left bytes start ≡ line ∷ lines_left bytes (start + (length line + 1))
left_next bytes line start h f = left_here bytes start h ∙ f.first ∙ ap (λ v. line ∷ v) (left_by bytes start (length line + 1) h)

pub first_by : (bytes line : List ℕ) (start : ℕ) → lines_of (take (length bytes - start) (drop start bytes)) ≡ line ∷ lines_left (take (length bytes - start) (drop start bytes)) (length line + 1)
    → line ≡ take (length line) (take (length bytes - start) (drop start bytes)) → length line ≤ length (take (length bytes - start) (drop start bytes)) → IsFirst (drop start bytes) line
first_by bytes line start a b c = subst (λ v. IsFirst v line) (all_of start bytes) (record { first = a; front = b; within = c })

-- A LINE THAT SAYS SOMETHING IS A STATEMENT

pub blanks_skip : (gap u : List ℕ) → list_all is_blank gap ≡ true → is_statement_line (gap ++ u) ≡ is_statement_line u
blanks_skip [] u h = refl
blanks_skip (b ∷ gap) u h = cond_true (is_blank b) (is_statement_line (gap ++ u)) (not (b == 45)) (left _ _ h) ∙ blanks_skip gap u (right _ _ h)

dash_silent : (b : ℕ) (bs : List ℕ) → (b == 45) ≡ true → is_statement_line (b ∷ bs) ≡ false
dash_silent b bs h = cond_false (is_blank b) (is_statement_line bs) (not (b == 45)) (grind arith) ∙ ap not h

comment_silent : (token rest : List ℕ) → is_comment token ≡ true → is_statement_line (token ++ rest) ≡ false
comment_silent [] rest h = true_false h refl
comment_silent (b ∷ []) rest h = true_false h refl
comment_silent (b ∷ (c ∷ token)) rest h = dash_silent b (c ∷ (token ++ rest)) (left _ _ h)

silent_nothing : (line : List ℕ) → list_all is_blank line ≡ true → is_statement_line line ≡ false
silent_nothing line h = ap is_statement_line (sym (append-nil line)) ∙ blanks_skip line [] h

silent_comment : (ks : List Kind) (line : List ℕ) → ks ≡ Comment ∷ [] → Spelled lexicon Free ks line → is_statement_line line ≡ false
silent_comment ks line e s = by_parts line (subst (λ v. Spelled lexicon Free v line) e s)
  where
    by_parts : (line : List ℕ) → Spelled lexicon Free (Comment ∷ []) line → is_statement_line line ≡ false
    by_parts line (gap, token, rest, cut, blank, is, apart, tail) = ap is_statement_line cut ∙ blanks_skip gap (token ++ rest) blank ∙ comment_silent token rest is

pub statement_of : (line : List ℕ) → IsLine line → is_statement_line line ≡ true → IsStatementText line
statement_of line (ks, inl (inl d), s) h = (ks, d, s)
statement_of line (ks, inl (inr e), s) h = true_false h (silent_comment ks line e s)
statement_of line (ks, inr e, s) h = true_false h (silent_nothing line (subst (λ v. Spelled lexicon Free v line) e s))

-- THE LINES SO FAR

pub record Kept (bytes : List ℕ) (start : ℕ) (spans : List Span) : Type 0 where
  pub before : List (List ℕ)
  pub split : lines_of bytes ≡ before ++ lines_left bytes start
  pub lines : AreLines before
  pub at : start ≡ start_behind before
  pub texts : texts_at bytes spans ≡ filter is_statement_line before
  pub spans_are : AreSpans bytes spans
  pub within : start ≤ length bytes + 1

pub kept_none : (bytes : List ℕ) → Kept bytes 0 []
kept_none bytes = record {
  before = [];
  split = sym (left_here bytes 0 (omega arith));
  lines = tt;
  at = refl;
  texts = refl;
  spans_are = tt;
  within = omega arith;
}

lines_snoc : (before : List (List ℕ)) (line : List ℕ) → AreLines before → IsLine line → AreLines (before ++ (line ∷ []))
lines_snoc [] line h l = (l, tt)
lines_snoc (b ∷ before) line h l = (h.0, lines_snoc before line h.1 l)

start_snoc : (before : List (List ℕ)) (line : List ℕ) → start_behind (before ++ (line ∷ [])) ≡ start_behind before + (length line + 1)
start_snoc [] line = omega arith
start_snoc (b ∷ before) line = omega (arith, start_snoc before line)

spans_snoc : (bytes : List ℕ) (spans : List Span) (s : Span) → AreSpans bytes spans → IsSpan bytes s → AreSpans bytes (spans ++ (s ∷ []))
spans_snoc bytes [] s h i = (i, tt)
spans_snoc bytes (a ∷ spans) s h i = (h.0, spans_snoc bytes spans s h.1 i)

texts_snoc : (bytes : List ℕ) (spans : List Span) (s : Span) → texts_at bytes (spans ++ (s ∷ [])) ≡ texts_at bytes spans ++ (text_at bytes s ∷ [])
texts_snoc bytes [] s = refl
texts_snoc bytes (a ∷ spans) s = ap (λ v. text_at bytes a ∷ v) (texts_snoc bytes spans s)

split_snoc : (bytes line : List ℕ) (start : ℕ) (before : List (List ℕ)) → lines_of bytes ≡ before ++ lines_left bytes start → lines_left bytes start ≡ line ∷ lines_left bytes (start + (length line + 1))
    → lines_of bytes ≡ (before ++ (line ∷ [])) ++ lines_left bytes (start + (length line + 1))
split_snoc bytes line start before a b = a ∙ ap (λ v. before ++ v) b ∙ sym (append_assoc before (line ∷ []) (lines_left bytes (start + (length line + 1))))

filter_snoc : (before : List (List ℕ)) (line : List ℕ) → filter is_statement_line (before ++ (line ∷ [])) ≡ filter is_statement_line before ++ cond (is_statement_line line) (line ∷ []) []
filter_snoc before line = filter-append is_statement_line before (line ∷ [])

pub kept_silent : (bytes line : List ℕ) (start : ℕ) (spans : List Span) → Kept bytes start spans → start ≤ length bytes → IsFirst (drop start bytes) line → IsLine line → is_statement_line line ≡ false → Kept bytes (start + (length line + 1)) spans
kept_silent bytes line start spans k h f l s = record {
  before = k.before ++ (line ∷ []);
  split = split_snoc bytes line start k.before k.split (left_next bytes line start h f);
  lines = lines_snoc k.before line k.lines l;
  at = ap (λ n. n + (length line + 1)) k.at ∙ sym (start_snoc k.before line);
  texts = k.texts ∙ sym (append-nil (filter is_statement_line k.before)) ∙ ap (λ v. filter is_statement_line k.before ++ v) (sym (cond_false (is_statement_line line) (line ∷ []) [] s)) ∙ sym (filter_snoc k.before line);
  spans_are = k.spans_are;
  within = omega (arith, f.within, length-drop start bytes, h);
}

text_is : (bytes line : List ℕ) (start : ℕ) (s : Span) → IsFirst (drop start bytes) line → s.start ≡ start → s.end ≡ start + length line → text_at bytes s ≡ line
text_is bytes line start s f a b = ap (λ n. take (s.end - n) (drop n bytes)) a ∙ ap (λ n. take n (drop start bytes)) (let e : s.end - start ≡ length line = omega (arith, b) in e) ∙ sym f.front

pub kept_statement : (bytes line : List ℕ) (start : ℕ) (spans : List Span) (s : Span) → Kept bytes start spans → start ≤ length bytes → IsFirst (drop start bytes) line → IsLine line → is_statement_line line ≡ true
    → s.start ≡ start → s.end ≡ start + length line → Kept bytes (start + (length line + 1)) (spans ++ (s ∷ []))
kept_statement bytes line start spans s k h f l t a b = record {
  before = k.before ++ (line ∷ []);
  split = split_snoc bytes line start k.before k.split (left_next bytes line start h f);
  lines = lines_snoc k.before line k.lines l;
  at = ap (λ n. n + (length line + 1)) k.at ∙ sym (start_snoc k.before line);
  texts = texts_snoc bytes spans s ∙ ap (λ v. v ++ (text_at bytes s ∷ [])) k.texts ∙ ap (λ v. filter is_statement_line k.before ++ (v ∷ [])) (text_is bytes line start s f a b)
      ∙ ap (λ v. filter is_statement_line k.before ++ v) (sym (cond_true (is_statement_line line) (line ∷ []) [] t)) ∙ sym (filter_snoc k.before line);
  spans_are = spans_snoc bytes spans s k.spans_are (record {
    ordered = omega (arith, a, b);
    within = omega (arith, b, f.within, length-drop start bytes, h);
    statement = subst IsStatementText (sym (text_is bytes line start s f a b)) (statement_of line l t);
  });
  within = omega (arith, f.within, length-drop start bytes, h);
}

lines_end : (bytes : List ℕ) (start : ℕ) (before : List (List ℕ)) → lines_of bytes ≡ before ++ lines_left bytes start → length bytes < start → before ≡ lines_of bytes
lines_end bytes start before e h = sym (e ∙ ap (λ v. before ++ v) (left_none bytes start h) ∙ append-nil before)

pub kept_lines : (bytes : List ℕ) (start : ℕ) (spans : List Span) → Kept bytes start spans → length bytes < start → InGrammar bytes
kept_lines bytes start spans k h = subst AreLines (lines_end bytes start k.before k.split h) k.lines

pub kept_texts : (bytes : List ℕ) (start : ℕ) (spans : List Span) → Kept bytes start spans → length bytes < start → texts_at bytes spans ≡ statements_of bytes
kept_texts bytes start spans k h = k.texts ∙ ap (filter is_statement_line) (lines_end bytes start k.before k.split h)

pub kept_bad : (bytes line : List ℕ) (start : ℕ) (spans : List Span) → Kept bytes start spans → start ≤ length bytes → IsFirst (drop start bytes) line → (IsLine line → ⊥) → IsBadAt bytes start
kept_bad bytes line start spans k h f none = (k.before, line, lines_left bytes (start + (length line + 1)), k.split ∙ ap (λ v. k.before ++ v) (left_next bytes line start h f), k.lines, none, k.at)
