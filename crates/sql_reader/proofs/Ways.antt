-- Ways through a statement, token by token.
use Rattle.std.proofs.Common.{◌≡◌, ℕ, ◌+◌, ◌-◌, Bool, true, List, [], ◌∷◌, ◌++◌, ◌⊎◌, inl, inr, cond, length, refl, sym, ◌∙◌, ap, subst, append_assoc, take, drop, Result, Ok, Err, IfOk}
use Rattle.std.proofs.lemmas.List.{append-nil}
use Rattle.std.proofs.Math.Seq.{drop-drop}
use Rattle.sql_reader.specs.declared.token.Edge.TheVariants.{Free}
use Rattle.sql_reader.specs.declared.token.Kind.{Kind}
use Rattle.sql_reader.specs.declared.token.Kind.TheVariants.{Word, Signed, Text, Sign}
use Rattle.sql_reader.specs.declared.token.Keyword.{Keyword}
use Rattle.sql_reader.specs.declared.token.Keyword.TheVariants as keyword
use Rattle.sql_reader.specs.declared.token.Sign.TheVariants as sign
use Rattle.ids_base.specs.declared.plan.Plan.{Plan}
use Rattle.ids_base.specs.declared.plan.Term.{Term}
use Rattle.ids_base.specs.declared.plan.DataStatement.{DataStatement}
use Rattle.ids_base.specs.declared.plan.DataStatement.TheVariants.{CreateTable, Insert, Select, Delete}
use Rattle.ids_base.specs.declared.shape.Column.{Column}
use Rattle.ids_base.specs.declared.value.Value.{Value}
use Rattle.sql_reader.specs.declared.place.Place.{Place}
use Rattle.sql_reader.specs.declared.place.Place.TheVariants as place
use Rattle.sql_reader.specs.declared.reader.Reader.{Reader}
use Rattle.sql_reader.specs.Form.{InRow, Runs, From, Reads, kinds}
use Rattle.sql_reader.specs.Tokens.{edge}
use Rattle.sql_reader.specs.Places.{row, lexicon}
use Rattle.sql_reader.specs.Grammar.{IsStatementText}
use Rattle.sql_reader.specs.Plans.{Item, says_word, says_all, says_name, token_items, items_of_tokens, column_items, shape_items, value_item, row_items, condition_items, statement_items, items_of_plan, IsPlanOf}
use Rattle.sql_reader.specs.Reading.{IsOn, LeftReads, Went, Next, IsOnly, IsValue, IsKind, IsListEnd, IsSilent, IsBehind, is_word_kind, all_words}
use Rattle.sql_reader.proofs.Stands.{all_of}
use Rattle.sql_reader.proofs.Table.{runs_statement, derives_statement}
use Rattle.sql_reader.proofs.Form.{reads_of}
use Rattle.sql_reader.proofs.Tokens.{left, right}

pub starts_on : (bytes : List ℕ) → IsStatementText bytes → From lexicon place.StatementStart Free bytes
starts_on bytes (ks, d, s) = (ks, runs_statement ks d, s)

pub went_next : (old new : Reader) (g n : ℕ) (k : Kind) (r : Place) (p : List ℕ) → Next old.place old.edge old.rest.now g n k r → new.place ≡ r → new.edge ≡ edge k → new.rest.now ≡ drop (g + n) old.rest.now → p ≡ take n (drop g old.rest.now)
    → Went old new (token_items k p)
went_next old new g n k r p next place_is edge_is rest_is text_is = record {
  tokens = (k, take n (drop g old.rest.now)) ∷ [];
  say = append-nil (token_items k (take n (drop g old.rest.now))) ∙ ap (token_items k) (sym text_is);
  reads = λ ts l. (
    (r, next.stands, subst (λ v. Runs lexicon v (kinds ts)) place_is l.0),
    next.step ts (subst (λ v. Reads lexicon (edge k) ts v) rest_is (subst (λ v. Reads lexicon v ts new.rest.now) edge_is l.1)),
  );
}

pub rest_here : (bytes : List ℕ) (g n : ℕ) → take (length (take (length bytes - g) (drop g bytes)) - n) (drop n (take (length bytes - g) (drop g bytes))) ≡ drop (g + n) bytes
rest_here bytes g n = all_of n (take (length bytes - g) (drop g bytes)) ∙ ap (drop n) (all_of g bytes) ∙ drop-drop n g bytes

pub text_here : (bytes : List ℕ) (g n : ℕ) → take n (take (length bytes - g) (drop g bytes)) ≡ take n (drop g bytes)
text_here bytes g n = ap (take n) (all_of g bytes)

pub items-append : (us vs : List (Kind × List ℕ)) → items_of_tokens (us ++ vs) ≡ items_of_tokens us ++ items_of_tokens vs
items-append [] vs = refl
items-append (u ∷ us) vs = ap (λ w. token_items u.0 u.1 ++ w) (items-append us vs) ∙ sym (append_assoc (token_items u.0 u.1) (items_of_tokens us) (items_of_tokens vs))

-- one way behind another
pub went_on : (a b c : Reader) (xs ys : List Item) → Went a b xs → Went b c ys → Went a c (xs ++ ys)
went_on a b c xs ys v w = record {
  tokens = v.tokens ++ w.tokens;
  say = items-append v.tokens w.tokens ∙ ap (λ u. u ++ items_of_tokens w.tokens) v.say ∙ ap (λ u. xs ++ u) w.say;
  reads = λ ts l. subst (LeftReads a) (sym (append_assoc v.tokens w.tokens ts)) (v.reads (w.tokens ++ ts) (w.reads ts l));
}

pub went_none : (a : Reader) → Went a a []
went_none a = record { tokens = []; say = refl; reads = λ ts l. l }

pub went_as : (a b : Reader) (xs ys : List Item) → xs ≡ ys → Went a b xs → Went a b ys
went_as a b xs ys e w = subst (Went a b) e w

-- the one token that may stand at a place
pub only_row : (q : Place) (k : Kind) (r : Place) (l : Kind) (s : Place) → IsOnly q k r → InRow (row q) l s → (k ≡ l) × (r ≡ s)
only_row q k r l s only i = by_row (subst (λ v. InRow v l s) only.0 i)
  where
    by_row : InRow ((k, r) ∷ []) l s → (k ≡ l) × (r ≡ s)
    by_row (inl e) = e
    by_row (inr e) = absurd e

-- a value is a number or a text
pub value_row : (q r : Place) (l : Kind) (s : Place) → IsValue q r → InRow (row q) l s → ((l ≡ Signed) ⊎ (l ≡ Text)) × (s ≡ r)
value_row q r l s only i = by_row (subst (λ v. InRow v l s) only.0 i)
  where
    by_row : InRow ((Signed, r) ∷ (Text, r) ∷ []) l s → ((l ≡ Signed) ⊎ (l ≡ Text)) × (s ≡ r)
    by_row (inl e) = (inl (sym e.0), sym e.1)
    by_row (inr (inl e)) = (inr (sym e.0), sym e.1)
    by_row (inr (inr e)) = absurd e

-- THE PLACES OF COLUMNS AND VALUES

pub kind_at_first : (q : Place) → q ≡ place.ColumnKind → IsKind q place.CharSize place.CharClose place.ColumnEnd
kind_at_first q e = subst (λ v. IsKind v place.CharSize place.CharClose place.ColumnEnd) (sym e) (place.CharOpen, refl, refl, (refl, refl), (refl, refl), (refl, refl))

pub kind_at_next : (q : Place) → q ≡ place.NextKind → IsKind q place.NextCharSize place.NextCharClose place.NextEnd
kind_at_next q e = subst (λ v. IsKind v place.NextCharSize place.NextCharClose place.NextEnd) (sym e) (place.NextCharOpen, refl, refl, (refl, refl), (refl, refl), (refl, refl))

pub list_at_next : (q : Place) → q ≡ place.NextEnd → IsListEnd q place.Next
list_at_next q e = subst (λ v. IsListEnd v place.Next) (sym e) (refl, refl)

pub list_at_value : (q : Place) → q ≡ place.ValueEnd → IsListEnd q place.Value
list_at_value q e = subst (λ v. IsListEnd v place.Value) (sym e) (refl, refl)

-- behind the first column no token says anything
pub column_end_says : (q : Place) (k : Kind) (r : Place) (p : List ℕ) → q ≡ place.ColumnEnd → InRow (row q) k r → token_items k p ≡ []
column_end_says q k r p e i = by_row (subst (λ v. InRow (row v) k r) e i)
  where
    by_row : InRow (row place.ColumnEnd) k r → token_items k p ≡ []
    by_row (inl e) = ap (λ v. token_items v p) (sym e.0)
    by_row (inr (inl e)) = ap (λ v. token_items v p) (sym e.0)
    by_row (inr (inr (inl e))) = ap (λ v. token_items v p) (sym e.0)
    by_row (inr (inr (inr e))) = absurd e

shape_snoc : (shape : List Column) (column : Column) → shape_items (shape ++ (column ∷ [])) ≡ shape_items shape ++ column_items column
shape_snoc [] column = append-nil (column_items column)
shape_snoc (c ∷ shape) column = ap (λ v. column_items c ++ v) (shape_snoc shape column) ∙ sym (append_assoc (column_items c) (shape_items shape) (column_items column))

row_snoc : (values : List Value) (value : Value) → row_items (values ++ (value ∷ [])) ≡ row_items values ++ (value_item value ∷ [])
row_snoc [] value = refl
row_snoc (v ∷ values) value = ap (λ u. value_item v ∷ u) (row_snoc values value)

-- one more column
pub went_column : (a b c d : Reader) (shape more : List Column) (column : Column) → Went a b (shape_items shape) → Went b c (column_items column) → Went c d [] → more ≡ shape ++ (column ∷ []) → Went a d (shape_items more)
went_column a b c d shape more column u v w e = went_as a d _ _ (ap (λ x. shape_items shape ++ x) (append-nil (column_items column)) ∙ sym (ap shape_items e ∙ shape_snoc shape column)) (went_on a b d (shape_items shape) (column_items column ++ []) u (went_on b c d (column_items column) [] v w))

-- one more value
pub went_value : (a b c d : Reader) (values more : List Value) (value : Value) → Went a b (row_items values) → Went b c (value_item value ∷ []) → Went c d [] → more ≡ values ++ (value ∷ []) → Went a d (row_items more)
went_value a b c d values more value u v w e = went_as a d _ _ (sym (ap row_items e ∙ row_snoc values value)) (went_on a b d (row_items values) (value_item value ∷ []) u (went_on b c d (value_item value ∷ []) [] v w))

pub behind_select : (old new : Reader) (table : List ℕ) (condition : List Term) → Went old new (says_all ∷ says_word keyword.From ∷ says_name table ∷ condition_items condition) → IsBehind keyword.Select old new (Select table condition)
behind_select old new table condition w = record { items = says_all ∷ says_word keyword.From ∷ says_name table ∷ condition_items condition; went = w; says = refl }

pub behind_delete : (old new : Reader) (table : List ℕ) (condition : List Term) → Went old new (says_word keyword.From ∷ says_name table ∷ condition_items condition) → IsBehind keyword.Delete old new (Delete table condition)
behind_delete old new table condition w = record { items = says_word keyword.From ∷ says_name table ∷ condition_items condition; went = w; says = refl }

-- a condition of one term
pub went_condition : (old new : Reader) (condition : List Term) (term : Term) → condition ≡ term ∷ [] → Went old new (condition_items (term ∷ [])) → Went old new (condition_items condition)
went_condition old new condition term e w = went_as old new _ _ (ap condition_items (sym e)) w

-- a shape or a row, read so far
pub record Listing (start now : Reader) (items : List Item) (more : Bool) (next : Place) : Type 0 where
  pub on : IsOn now
  pub at : now.place ≡ cond more next place.StatementEnd
  pub went : Went start now items

pub word_of_row : (rows : List (Kind × Place)) (k : Kind) (r : Place) → all_words rows ≡ true → InRow rows k r → is_word_kind k ≡ true
word_of_row [] k r h i = absurd i
word_of_row (a ∷ more) k r h (inl e) = subst (λ v. is_word_kind v ≡ true) e.0 (left _ _ h)
word_of_row (a ∷ more) k r h (inr i) = word_of_row more k r (right _ _ h) i

pub kind_words : (q size close end : Place) → IsKind q size close end → all_words (row q) ≡ true
kind_words q size close end k = ap all_words k.1

same_word : (v w : Keyword) → Word v ≡ Word w → v ≡ w
same_word v w e = cc

pub kind_char : (q size close end : Place) (w : Keyword) (r : Place) → IsKind q size close end → InRow (row q) (Word w) r → (w ≡ keyword.Integer → ⊥) → (w ≡ keyword.Char) × IsOnly r (Sign sign.Open) size
kind_char q size close end w r k i no_integer = by_row (subst (λ v. InRow v (Word w) r) k.1 i)
  where
    by_row : InRow ((Word keyword.Integer, end) ∷ (Word keyword.Char, k.0) ∷ []) (Word w) r → (w ≡ keyword.Char) × IsOnly r (Sign sign.Open) size
    by_row (inl e) = absurd (no_integer (sym (same_word _ _ e.0)))
    by_row (inr (inl e)) = (sym (same_word _ _ e.0), subst (λ v. IsOnly v (Sign sign.Open) size) e.1 k.3)
    by_row (inr (inr e)) = absurd e

-- a word that begins a statement and is none of the others is SELECT
pub statement_select : (q : Place) (w : Keyword) (r : Place) → q ≡ place.StatementStart → InRow (row q) (Word w) r → (w ≡ keyword.Begin → ⊥) → (w ≡ keyword.Commit → ⊥) → (w ≡ keyword.Rollback → ⊥) → (w ≡ keyword.Create → ⊥) → (w ≡ keyword.Insert → ⊥) → (w ≡ keyword.Delete → ⊥) → (w ≡ keyword.Select) × (r ≡ place.Select)
statement_select q w r at i a b c d f g = by_row (subst (λ v. InRow (row v) (Word w) r) at i)
  where
    by_row : InRow (row place.StatementStart) (Word w) r → (w ≡ keyword.Select) × (r ≡ place.Select)
    by_row (inl e) = absurd (a (sym (same_word _ _ e.0)))
    by_row (inr (inl e)) = absurd (b (sym (same_word _ _ e.0)))
    by_row (inr (inr (inl e))) = absurd (c (sym (same_word _ _ e.0)))
    by_row (inr (inr (inr (inl e)))) = absurd (d (sym (same_word _ _ e.0)))
    by_row (inr (inr (inr (inr (inl e))))) = absurd (f (sym (same_word _ _ e.0)))
    by_row (inr (inr (inr (inr (inr (inl e)))))) = (sym (same_word _ _ e.0), sym e.1)
    by_row (inr (inr (inr (inr (inr (inr (inl e))))))) = absurd (g (sym (same_word _ _ e.0)))
    by_row (inr (inr (inr (inr (inr (inr (inr e))))))) = absurd e

pub went_behind : (a b c : Reader) (w : Keyword) (statement : DataStatement) → Went a b (says_word w ∷ []) → IsBehind w b c statement → Went a c (statement_items statement)
went_behind a b c w statement v i = went_as a c _ _ i.says (went_on a b c (says_word w ∷ []) i.items v i.went)

-- WHAT IS LEFT BEHIND A STATEMENT SAYS NOTHING

silent_line_end : (ts : List (Kind × List ℕ)) → Runs lexicon place.LineEnd (kinds ts) → items_of_tokens ts ≡ []
silent_line_end [] run = refl
silent_line_end (t ∷ ts) (r, i, run) = absurd i

silent_both : (k : Kind) (p : List ℕ) (ts : List (Kind × List ℕ)) → token_items k p ≡ [] → items_of_tokens ts ≡ [] → items_of_tokens ((k, p) ∷ ts) ≡ []
silent_both k p ts a b = ap (λ v. v ++ items_of_tokens ts) a ∙ b

silent_statement_end : (ts : List (Kind × List ℕ)) → Runs lexicon place.StatementEnd (kinds ts) → items_of_tokens ts ≡ []
silent_statement_end [] run = refl
silent_statement_end ((k, p) ∷ ts) (r, inl e, run) = silent_both k p ts (ap (λ v. token_items v p) (sym e.0)) (silent_line_end ts (subst (λ v. Runs lexicon v (kinds ts)) (sym e.1) run))
silent_statement_end ((k, p) ∷ ts) (r, inr e, run) = absurd e

silent_begin : (ts : List (Kind × List ℕ)) → Runs lexicon place.Begin (kinds ts) → items_of_tokens ts ≡ []
silent_begin [] run = refl
silent_begin ((k, p) ∷ ts) (r, inl e, run) = silent_both k p ts (ap (λ v. token_items v p) (sym e.0)) (silent_statement_end ts (subst (λ v. Runs lexicon v (kinds ts)) (sym e.1) run))
silent_begin ((k, p) ∷ ts) (r, inr (inl e), run) = silent_both k p ts (ap (λ v. token_items v p) (sym e.0)) (silent_line_end ts (subst (λ v. Runs lexicon v (kinds ts)) (sym e.1) run))
silent_begin ((k, p) ∷ ts) (r, inr (inr e), run) = absurd e

silent : (q : Place) (ts : List (Kind × List ℕ)) → IsSilent q → Runs lexicon q (kinds ts) → items_of_tokens ts ≡ []
silent q ts (inl e) run = silent_begin ts (subst (λ v. Runs lexicon v (kinds ts)) e run)
silent q ts (inr e) run = silent_statement_end ts (subst (λ v. Runs lexicon v (kinds ts)) e run)

rest_reads : (b : Reader) → IsOn b → (ts : List (Kind × List ℕ)) × LeftReads b ts
rest_reads b (ks, run, spelled) = let o = reads_of lexicon b.edge ks b.rest.now spelled in (o.0, (subst (Runs lexicon b.place) (sym o.1) run, o.2))

pub plan_by : (bytes : List ℕ) (a b : Reader) (plan : Plan) → a.place ≡ place.StatementStart → a.edge ≡ Free → a.rest.now ≡ bytes → Went a b (items_of_plan plan) → IsOn b → IsSilent b.place → IsPlanOf bytes plan
plan_by bytes a b plan at free rest_is w on quiet =
    let left_of : (ts : List (Kind × List ℕ)) × LeftReads b ts = rest_reads b on in
    let all_of : LeftReads a (w.tokens ++ left_of.0) = w.reads left_of.0 left_of.1 in (
      w.tokens ++ left_of.0,
      (
        derives_statement (kinds (w.tokens ++ left_of.0)) (subst (λ v. Runs lexicon v (kinds (w.tokens ++ left_of.0))) at all_of.0),
        subst (λ v. Reads lexicon Free (w.tokens ++ left_of.0) v) rest_is (subst (λ v. Reads lexicon v (w.tokens ++ left_of.0) a.rest.now) free all_of.1),
      ),
      items-append w.tokens left_of.0 ∙ ap (λ v. items_of_tokens w.tokens ++ v) (silent b.place left_of.0 quiet left_of.1.0) ∙ append-nil (items_of_tokens w.tokens) ∙ w.say,
    )

pub read_by : {E : Type 0} (bytes : List ℕ) (a b : Reader) (r : Result Plan E) → a.place ≡ place.StatementStart → a.edge ≡ Free → a.rest.now ≡ bytes
    → IfOk r (λ plan. Went a b (items_of_plan plan)) → IfOk r (λ _. IsOn b) → IfOk r (λ _. IsSilent b.place) → IfOk r (λ plan. IsPlanOf bytes plan)
read_by bytes a b (Ok plan) at free rest_is w on quiet = plan_by bytes a b plan at free rest_is w on quiet
read_by bytes a b (Err e) at free rest_is w on quiet = tt

pub behind_create : (old new : Reader) (table : List ℕ) (shape : List Column) → Went old new (says_word keyword.Table ∷ says_name table ∷ shape_items shape) → IsBehind keyword.Create old new (CreateTable table shape)
behind_create old new table shape w = record { items = says_word keyword.Table ∷ says_name table ∷ shape_items shape; went = w; says = refl }

pub behind_insert : (old new : Reader) (table : List ℕ) (values : List Value) → Went old new (says_word keyword.Into ∷ says_name table ∷ says_word keyword.Values ∷ row_items values) → IsBehind keyword.Insert old new (Insert table values)
behind_insert old new table values w = record { items = says_word keyword.Into ∷ says_name table ∷ says_word keyword.Values ∷ row_items values; went = w; says = refl }

pub pushed_one : {A : Type 0} (ys zs : List A) (x : A) → ys ≡ [] → zs ≡ ys ++ (x ∷ []) → zs ≡ x ∷ []
pushed_one ys zs x h e = e ∙ ap (λ v. v ++ (x ∷ [])) h
