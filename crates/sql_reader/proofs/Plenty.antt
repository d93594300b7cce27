-- Each statement has a plan.
use Rattle.std.proofs.Common.{◌≡◌, ℕ, List, [], ◌∷◌, ◌++◌, inl, inr, true, false, cond, map, refl, sym, ◌∙◌, ap, subst}
use Rattle.std.specs.List.{filter}
use Rattle.std.proofs.lemmas.List.{append-nil}
use Rattle.ids_base.specs.declared.plan.Comparison.TheVariants.{Equal}
use Rattle.ids_base.specs.declared.plan.DataStatement.{DataStatement}
use Rattle.ids_base.specs.declared.plan.DataStatement.TheVariants.{CreateTable, Insert, Select, Delete}
use Rattle.ids_base.specs.declared.plan.Plan.{Plan}
use Rattle.ids_base.specs.declared.plan.Plan.TheVariants.{Data, Begin, Commit, Rollback}
use Rattle.ids_base.specs.declared.shape.Kind.{Kind as ColumnKind}
use Rattle.ids_base.specs.declared.shape.Kind.TheVariants.{Integer, Char}
use Rattle.ids_base.specs.declared.shape.Column.{Column}
use Rattle.ids_base.specs.declared.value.Value.{Value}
use Rattle.ids_base.specs.declared.value.Value.TheVariants.{Int, Chars}
use Rattle.ids_base.specs.Texts.{trimmed}
use Rattle.sql_reader.specs.declared.token.Kind.{Kind}
use Rattle.sql_reader.specs.declared.token.Kind.TheVariants.{Word, Name, Number, Signed, Text, Sign}
use Rattle.sql_reader.specs.declared.token.Keyword.{Keyword}
use Rattle.sql_reader.specs.declared.token.Keyword.TheVariants as keyword
use Rattle.sql_reader.specs.declared.token.Sign.{Sign as SignOf}
use Rattle.sql_reader.specs.declared.token.Sign.TheVariants as sign
use Rattle.sql_reader.specs.Form.{kinds}
use Rattle.sql_reader.specs.Ebnf.{Grammar, nothing, token, both, either, many, Pieces, done, piece, Derives, optional}
use Rattle.sql_reader.specs.Tokens.{lower, value as digits_value}
use Rattle.sql_reader.specs.Grammar.{column, create, value, insert, select, delete, statement, statement_line, IsLine, IsStatementText, IsReading}
use Rattle.sql_reader.specs.Lines.{AreLines, InGrammar, lines_of, is_statement_line, statements_of, sessions}
use Rattle.sql_reader.specs.Plans.{Item, says_word, says_name, says_size, signed_value, size_of, text_value, word_items, sign_items, token_items, items_of_tokens, value_item, kind_items, column_items, shape_items, row_items, statement_items, items_of_plan, IsPlanOf, Each, IsScriptOf}
use Rattle.sql_reader.proofs.Table.{some_reading}
use Rattle.sql_reader.proofs.Ways.{items-append}
use Rattle.sql_reader.proofs.Lines.{statement_of}

abbrev Tokens : Type 0
Tokens = List (Kind × List ℕ)

-- each reading of the grammar says such items
record Tells (A : Type 0) (g : Grammar Kind) (f : A → List Item) : Type 0 where
  tell : (ts : Tokens) → Derives g (kinds ts) → (x : A) × (items_of_tokens ts ≡ f x)

-- tokens cut where their kinds are
record CutAt (ts : Tokens) (xs ys : List Kind) : Type 0 where
  front : Tokens
  back : Tokens
  is : ts ≡ front ++ back
  front_kinds : kinds front ≡ xs
  back_kinds : kinds back ≡ ys

cut_more : (t : Kind × List ℕ) (ts : Tokens) (x : Kind) (xs ys : List Kind) → t.0 ≡ x → CutAt ts xs ys → CutAt (t ∷ ts) (x ∷ xs) ys
cut_more t ts x xs ys e c = record { front = t ∷ c.front; back = c.back; is = ap (λ v. t ∷ v) c.is; front_kinds = ap (λ v. v ∷ kinds c.front) e ∙ ap (λ v. x ∷ v) c.front_kinds; back_kinds = c.back_kinds }

cut_kinds : (xs ys : List Kind) (ts : Tokens) → kinds ts ≡ xs ++ ys → CutAt ts xs ys
cut_kinds [] ys ts e = record { front = []; back = ts; is = refl; front_kinds = refl; back_kinds = e }
cut_kinds (x ∷ xs) ys [] e = cc
cut_kinds (x ∷ xs) ys (t ∷ ts) e = let a : t.0 ≡ x = cc in let b : kinds ts ≡ xs ++ ys = cc in cut_more t ts x xs ys a (cut_kinds xs ys ts b)

one_token : (k : Kind) (ts : Tokens) → kinds ts ≡ k ∷ [] → (p : List ℕ) × (items_of_tokens ts ≡ token_items k p)
one_token k [] e = cc
one_token k ((l, p) ∷ []) e = (p, append-nil (token_items l p) ∙ ap (λ v. token_items v p) (let a : l ≡ k = cc in a))
one_token k (t ∷ (u ∷ ts)) e = absurd (let a : kinds (u ∷ ts) ≡ [] = cc in let b : u.0 ∷ kinds ts ≡ [] = a in cc)

tells_token : (k : Kind) → Tells (List ℕ) (token k) (token_items k)
tells_token k = record { tell = one_token k }

tells_both : (A B : Type 0) (a b : Grammar Kind) (f : A → List Item) (g : B → List Item) → Tells A a f → Tells B b g → Tells (A × B) (both a b) (λ x. f x.0 ++ g x.1)
tells_both A B a b f g u v = record { tell = λ ts d. two ts d.0 d.1 (cut_kinds d.0 d.1 ts d.2) d.3 d.4 }
  where
    two : (ts : Tokens) (xs ys : List Kind) → CutAt ts xs ys → Derives a xs → Derives b ys → (x : A × B) × (items_of_tokens ts ≡ f x.0 ++ g x.1)
    two ts xs ys c d h =
        let x : (x : A) × (items_of_tokens c.front ≡ f x) = u.tell c.front (subst (Derives a) (sym c.front_kinds) d) in
        let y : (y : B) × (items_of_tokens c.back ≡ g y) = v.tell c.back (subst (Derives b) (sym c.back_kinds) h) in
        ((x.0, y.0), ap items_of_tokens c.is ∙ items-append c.front c.back ∙ ap (λ w. w ++ items_of_tokens c.back) x.1 ∙ ap (λ w. f x.0 ++ w) y.1)

tells_either : (A : Type 0) (a b : Grammar Kind) (f : A → List Item) → Tells A a f → Tells A b f → Tells A (either a b) f
tells_either A a b f u v = record { tell = λ ts d. elim d [ inl e ↦ u.tell ts e | inr e ↦ v.tell ts e ] }

tells_as : (A B : Type 0) (a : Grammar Kind) (f : A → List Item) (g : B → List Item) (h : A → B) → ((x : A) → f x ≡ g (h x)) → Tells A a f → Tells B a g
tells_as A B a f g h same u = record { tell = λ ts d. (let x : (x : A) × (items_of_tokens ts ≡ f x) = u.tell ts d in (h x.0, x.1 ∙ same x.0)) }

no_tokens : (ts : Tokens) → kinds ts ≡ [] → items_of_tokens ts ≡ []
no_tokens [] e = refl
no_tokens (t ∷ ts) e = cc

tells_nothing : (A : Type 0) (f : A → List Item) (x : A) → f x ≡ [] → Tells A nothing f
tells_nothing A f x e = record { tell = λ ts d. (x, no_tokens ts d ∙ sym e) }

abbrev flat : (A : Type 0) → (A → List Item) → List A → List Item
flat A f [] = []
flat A f (x ∷ xs) = f x ++ flat A f xs

many_pieces : (A : Type 0) (a : Grammar Kind) (f : A → List Item) → Tells A a f → (ks : List Kind) → Pieces (Derives a) ks → (ts : Tokens) → kinds ts ≡ ks → (xs : List A) × (items_of_tokens ts ≡ flat A f xs)
many_pieces A a f u ks (done _ e) ts is = ([], no_tokens ts (is ∙ e))
many_pieces A a f u ks (piece _ xs ys e d more) ts is =
    let c : CutAt ts xs ys = cut_kinds xs ys ts (is ∙ e) in
    let x : (x : A) × (items_of_tokens c.front ≡ f x) = u.tell c.front (subst (Derives a) (sym c.front_kinds) d) in
    let y : (y : List A) × (items_of_tokens c.back ≡ flat A f y) = many_pieces A a f u ys more c.back c.back_kinds in
    (x.0 ∷ y.0, ap items_of_tokens c.is ∙ items-append c.front c.back ∙ ap (λ w. w ++ items_of_tokens c.back) x.1 ∙ ap (λ w. f x.0 ++ w) y.1)

tells_many : (A : Type 0) (a : Grammar Kind) (f : A → List Item) → Tells A a f → Tells (List A) (many a) (flat A f)
tells_many A a f u = record { tell = λ ts d. many_pieces A a f u (kinds ts) d ts refl }

-- THE GRAMMAR, RULE BY RULE

tells_word : (w : Keyword) → Tells (List ℕ) (token (Word w)) (λ p. word_items w)
tells_word w = tells_token (Word w)

tells_sign : (s : SignOf) → Tells (List ℕ) (token (Sign s)) (λ p. sign_items s)
tells_sign s = tells_token (Sign s)

tells_name : Tells (List ℕ) (token Name) (λ n. says_name n ∷ [])
tells_name = tells_as (List ℕ) (List ℕ) (token Name) (token_items Name) (λ n. says_name n ∷ []) (map lower) (λ p. refl) (tells_token Name)

tells_size : Tells ℕ (token Number) (λ n. says_size n ∷ [])
tells_size = tells_as (List ℕ) ℕ (token Number) (token_items Number) (λ n. says_size n ∷ []) (λ p. size_of (digits_value 0 p)) (λ p. refl) (tells_token Number)

tells_value : Tells Value value (λ v. value_item v ∷ [])
tells_value = tells_either Value (token Signed) (token Text) (λ v. value_item v ∷ [])
    (tells_as (List ℕ) Value (token Signed) (token_items Signed) (λ v. value_item v ∷ []) (λ p. Int (signed_value p)) (λ p. refl) (tells_token Signed))
    (tells_as (List ℕ) Value (token Text) (token_items Text) (λ v. value_item v ∷ []) (λ p. Chars (trimmed (text_value p))) (λ p. refl) (tells_token Text))

abbrev char_rule : Grammar Kind
char_rule = both (token (Word keyword.Char)) (both (token (Sign sign.Open)) (both (token Number) (token (Sign sign.Close))))

tells_char : Tells ColumnKind char_rule kind_items
tells_char = tells_as (List ℕ × (List ℕ × (ℕ × List ℕ))) ColumnKind char_rule (λ x. word_items keyword.Char ++ (sign_items sign.Open ++ ((says_size x.1.1.0 ∷ []) ++ sign_items sign.Close))) kind_items (λ x. Char x.1.1.0) (λ x. refl)
    (tells_both (List ℕ) (List ℕ × (ℕ × List ℕ)) _ _ _ _ (tells_word keyword.Char)
    (tells_both (List ℕ) (ℕ × List ℕ) _ _ _ _ (tells_sign sign.Open)
    (tells_both ℕ (List ℕ) _ _ _ _ tells_size (tells_sign sign.Close))))

tells_kind : Tells ColumnKind (either (token (Word keyword.Integer)) char_rule) kind_items
tells_kind = tells_either ColumnKind (token (Word keyword.Integer)) char_rule kind_items
    (tells_as (List ℕ) ColumnKind (token (Word keyword.Integer)) (λ p. word_items keyword.Integer) kind_items (λ p. Integer) (λ p. refl) (tells_word keyword.Integer)) tells_char

tells_column : Tells Column column column_items
tells_column = tells_as (List ℕ × ColumnKind) Column column (λ x. (says_name x.0 ∷ []) ++ kind_items x.1) column_items (λ x. record { name = x.0; kind = x.1 }) (λ x. refl)
    (tells_both (List ℕ) ColumnKind _ _ _ _ tells_name tells_kind)

-- nothing, whether the tokens are there or not
silently : (g : Grammar Kind) → Tells (List ℕ) g (λ p. []) → Tells (List ℕ) (optional g) (λ p. [])
silently g u = tells_either (List ℕ) g nothing (λ p. []) u (tells_nothing (List ℕ) (λ p. []) [] refl)

tells_primary : Tells (List ℕ) (optional (both (token (Word keyword.Primary)) (token (Word keyword.Key)))) (λ p. [])
tells_primary = silently (both (token (Word keyword.Primary)) (token (Word keyword.Key)))
    (tells_as (List ℕ × List ℕ) (List ℕ) _ (λ x. word_items keyword.Primary ++ word_items keyword.Key) (λ p. []) (λ x. x.0) (λ x. refl) (tells_both (List ℕ) (List ℕ) _ _ _ _ (tells_word keyword.Primary) (tells_word keyword.Key)))

tells_more : (A : Type 0) (g : Grammar Kind) (f : A → List Item) → Tells A g f → Tells (List A) (many (both (token (Sign sign.Comma)) g)) (flat A f)
tells_more A g f u = tells_many A (both (token (Sign sign.Comma)) g) f
    (tells_as (List ℕ × A) A _ (λ x. sign_items sign.Comma ++ f x.1) f (λ x. x.1) (λ x. refl) (tells_both (List ℕ) A _ _ _ _ (tells_sign sign.Comma) u))

flat_shape : (xs : List Column) → flat Column column_items xs ≡ shape_items xs
flat_shape [] = refl
flat_shape (x ∷ xs) = ap (λ v. column_items x ++ v) (flat_shape xs)

flat_row : (xs : List Value) → flat Value (λ v. value_item v ∷ []) xs ≡ row_items xs
flat_row [] = refl
flat_row (x ∷ xs) = ap (λ v. value_item x ∷ v) (flat_row xs)

create_says : (n : List ℕ) (x : Column) (xs : List Column) → word_items keyword.Create ++ (word_items keyword.Table ++ ((says_name n ∷ []) ++ (sign_items sign.Open ++ (column_items x ++ ([] ++ (flat Column column_items xs ++ sign_items sign.Close))))))
    ≡ statement_items (CreateTable n (x ∷ xs))
create_says n x xs = ap (λ v. says_word keyword.Create ∷ says_word keyword.Table ∷ says_name n ∷ (column_items x ++ v)) (append-nil (flat Column column_items xs) ∙ flat_shape xs)

tells_create : Tells DataStatement create statement_items
tells_create = tells_as (List ℕ × (List ℕ × (List ℕ × (List ℕ × (Column × (List ℕ × (List Column × List ℕ))))))) DataStatement create
    (λ x. word_items keyword.Create ++ (word_items keyword.Table ++ ((says_name x.1.1.0 ∷ []) ++ (sign_items sign.Open ++ (column_items x.1.1.1.1.0 ++ ([] ++ (flat Column column_items x.1.1.1.1.1.1.0 ++ sign_items sign.Close)))))))
    statement_items (λ x. CreateTable x.1.1.0 (x.1.1.1.1.0 ∷ x.1.1.1.1.1.1.0)) (λ x. create_says x.1.1.0 x.1.1.1.1.0 x.1.1.1.1.1.1.0)
    (tells_both (List ℕ) (List ℕ × (List ℕ × (List ℕ × (Column × (List ℕ × (List Column × List ℕ)))))) _ _ _ _ (tells_word keyword.Create)
    (tells_both (List ℕ) (List ℕ × (List ℕ × (Column × (List ℕ × (List Column × List ℕ))))) _ _ _ _ (tells_word keyword.Table)
    (tells_both (List ℕ) (List ℕ × (Column × (List ℕ × (List Column × List ℕ)))) _ _ _ _ tells_name
    (tells_both (List ℕ) (Column × (List ℕ × (List Column × List ℕ))) _ _ _ _ (tells_sign sign.Open)
    (tells_both Column (List ℕ × (List Column × List ℕ)) _ _ _ _ tells_column
    (tells_both (List ℕ) (List Column × List ℕ) _ _ _ _ tells_primary
    (tells_both (List Column) (List ℕ) _ _ _ _ (tells_more Column column column_items tells_column) (tells_sign sign.Close))))))))

insert_says : (n : List ℕ) (v : Value) (vs : List Value) → word_items keyword.Insert ++ (word_items keyword.Into ++ ((says_name n ∷ []) ++ (word_items keyword.Values ++ (sign_items sign.Open ++ (((value_item v ∷ []) ++ flat Value (λ w. value_item w ∷ []) vs) ++ sign_items sign.Close)))))
    ≡ statement_items (Insert n (v ∷ vs))
insert_says n v vs = ap (λ w. says_word keyword.Insert ∷ says_word keyword.Into ∷ says_name n ∷ says_word keyword.Values ∷ value_item v ∷ w) (append-nil (flat Value (λ w. value_item w ∷ []) vs) ∙ flat_row vs)

tells_insert : Tells DataStatement insert statement_items
tells_insert = tells_as (List ℕ × (List ℕ × (List ℕ × (List ℕ × (List ℕ × ((Value × List Value) × List ℕ)))))) DataStatement insert
    (λ x. word_items keyword.Insert ++ (word_items keyword.Into ++ ((says_name x.1.1.0 ∷ []) ++ (word_items keyword.Values ++ (sign_items sign.Open ++ (((value_item x.1.1.1.1.1.0.0 ∷ []) ++ flat Value (λ w. value_item w ∷ []) x.1.1.1.1.1.0.1) ++ sign_items sign.Close))))))
    statement_items (λ x. Insert x.1.1.0 (x.1.1.1.1.1.0.0 ∷ x.1.1.1.1.1.0.1)) (λ x. insert_says x.1.1.0 x.1.1.1.1.1.0.0 x.1.1.1.1.1.0.1)
    (tells_both (List ℕ) (List ℕ × (List ℕ × (List ℕ × (List ℕ × ((Value × List Value) × List ℕ))))) _ _ _ _ (tells_word keyword.Insert)
    (tells_both (List ℕ) (List ℕ × (List ℕ × (List ℕ × ((Value × List Value) × List ℕ)))) _ _ _ _ (tells_word keyword.Into)
    (tells_both (List ℕ) (List ℕ × (List ℕ × ((Value × List Value) × List ℕ))) _ _ _ _ tells_name
    (tells_both (List ℕ) (List ℕ × ((Value × List Value) × List ℕ)) _ _ _ _ (tells_word keyword.Values)
    (tells_both (List ℕ) ((Value × List Value) × List ℕ) _ _ _ _ (tells_sign sign.Open)
    (tells_both (Value × List Value) (List ℕ) _ _ _ _ (tells_both Value (List Value) _ _ _ _ tells_value (tells_more Value value (λ v. value_item v ∷ []) tells_value)) (tells_sign sign.Close)))))))

tells_select : Tells DataStatement select statement_items
tells_select = tells_as (List ℕ × (List ℕ × (List ℕ × (List ℕ × (List ℕ × (List ℕ × (List ℕ × Value))))))) DataStatement select
    (λ x. word_items keyword.Select ++ (sign_items sign.Star ++ (word_items keyword.From ++ ((says_name x.1.1.1.0 ∷ []) ++ (word_items keyword.Where ++ ((says_name x.1.1.1.1.1.0 ∷ []) ++ (sign_items sign.Equal ++ (value_item x.1.1.1.1.1.1.1 ∷ []))))))))
    statement_items (λ x. Select x.1.1.1.0 (record { column = x.1.1.1.1.1.0; comparison = Equal; value = x.1.1.1.1.1.1.1 } ∷ [])) (λ x. refl)
    (tells_both (List ℕ) (List ℕ × (List ℕ × (List ℕ × (List ℕ × (List ℕ × (List ℕ × Value)))))) _ _ _ _ (tells_word keyword.Select)
    (tells_both (List ℕ) (List ℕ × (List ℕ × (List ℕ × (List ℕ × (List ℕ × Value))))) _ _ _ _ (tells_sign sign.Star)
    (tells_both (List ℕ) (List ℕ × (List ℕ × (List ℕ × (List ℕ × Value)))) _ _ _ _ (tells_word keyword.From)
    (tells_both (List ℕ) (List ℕ × (List ℕ × (List ℕ × Value))) _ _ _ _ tells_name
    (tells_both (List ℕ) (List ℕ × (List ℕ × Value)) _ _ _ _ (tells_word keyword.Where)
    (tells_both (List ℕ) (List ℕ × Value) _ _ _ _ tells_name
    (tells_both (List ℕ) Value _ _ _ _ (tells_sign sign.Equal) tells_value)))))))

tells_delete : Tells DataStatement delete statement_items
tells_delete = tells_as (List ℕ × (List ℕ × (List ℕ × (List ℕ × (List ℕ × (List ℕ × Value)))))) DataStatement delete
    (λ x. word_items keyword.Delete ++ (word_items keyword.From ++ ((says_name x.1.1.0 ∷ []) ++ (word_items keyword.Where ++ ((says_name x.1.1.1.1.0 ∷ []) ++ (sign_items sign.Equal ++ (value_item x.1.1.1.1.1.1 ∷ [])))))))
    statement_items (λ x. Delete x.1.1.0 (record { column = x.1.1.1.1.0; comparison = Equal; value = x.1.1.1.1.1.1 } ∷ [])) (λ x. refl)
    (tells_both (List ℕ) (List ℕ × (List ℕ × (List ℕ × (List ℕ × (List ℕ × Value))))) _ _ _ _ (tells_word keyword.Delete)
    (tells_both (List ℕ) (List ℕ × (List ℕ × (List ℕ × (List ℕ × Value)))) _ _ _ _ (tells_word keyword.From)
    (tells_both (List ℕ) (List ℕ × (List ℕ × (List ℕ × Value))) _ _ _ _ tells_name
    (tells_both (List ℕ) (List ℕ × (List ℕ × Value)) _ _ _ _ (tells_word keyword.Where)
    (tells_both (List ℕ) (List ℕ × Value) _ _ _ _ tells_name
    (tells_both (List ℕ) Value _ _ _ _ (tells_sign sign.Equal) tells_value))))))

-- BEGIN, COMMIT or ROLLBACK
tells_bare : (w : Keyword) (plan : Plan) → word_items w ++ [] ≡ items_of_plan plan → Tells Plan (both (token (Word w)) (optional (token (Word keyword.Work)))) items_of_plan
tells_bare w plan e = tells_as (List ℕ × List ℕ) Plan _ (λ x. word_items w ++ []) items_of_plan (λ x. plan) (λ x. e)
    (tells_both (List ℕ) (List ℕ) _ _ _ _ (tells_word w) (silently (token (Word keyword.Work)) (tells_word keyword.Work)))

tells_data : (g : Grammar Kind) → Tells DataStatement g statement_items → Tells Plan g items_of_plan
tells_data g u = tells_as DataStatement Plan g statement_items items_of_plan Data (λ x. refl) u

tells_statement : Tells Plan statement items_of_plan
tells_statement = tells_either Plan _ _ items_of_plan (tells_bare keyword.Begin Begin refl)
    (tells_either Plan _ _ items_of_plan (tells_bare keyword.Commit Commit refl)
    (tells_either Plan _ _ items_of_plan (tells_bare keyword.Rollback Rollback refl)
    (tells_either Plan _ _ items_of_plan (tells_data create tells_create)
    (tells_either Plan _ _ items_of_plan (tells_data insert tells_insert)
    (tells_either Plan select delete items_of_plan (tells_data select tells_select) (tells_data delete tells_delete))))))

tells_statement_line : Tells Plan statement_line items_of_plan
tells_statement_line = tells_as (Plan × List ℕ) Plan statement_line (λ x. items_of_plan x.0 ++ []) items_of_plan (λ x. x.0) (λ x. append-nil (items_of_plan x.0))
    (tells_both Plan (List ℕ) _ _ _ _ tells_statement (silently (token (Sign sign.Semicolon)) (tells_sign sign.Semicolon)))

pub some_plan : (bytes : List ℕ) → IsStatementText bytes → (plan : Plan) × IsPlanOf bytes plan
some_plan bytes h =
    let r : (ts : Tokens) × IsReading bytes ts = some_reading bytes h in
    let x : (plan : Plan) × (items_of_tokens r.0 ≡ items_of_plan plan) = tells_statement_line.tell r.0 r.1.0 in
    (x.0, (r.0, r.1, x.1))

-- SCRIPTS

abbrev Plans : List (List ℕ) → Type 0
Plans texts = (plans : List Plan) × Each IsPlanOf texts plans

more_plans : (line : List ℕ) (lines texts : List (List ℕ)) → IsLine line → Plans (filter is_statement_line lines) → Plans (filter is_statement_line (line ∷ lines))
more_plans line lines texts l more = elim (is_statement_line line) as (λ v. is_statement_line line ≡ v → Plans (cond v (line ∷ filter is_statement_line lines) (filter is_statement_line lines))) [
  | true ↦ λ e. (let p = some_plan line (statement_of line l e) in (p.0 ∷ more.0, (p.1, more.1)))
  | false ↦ λ e. more
] refl

line_plans : (lines : List (List ℕ)) → AreLines lines → Plans (filter is_statement_line lines)
line_plans [] h = ([], tt)
line_plans (line ∷ lines) h = more_plans line lines lines h.0 (line_plans lines h.1)

session_plans : (texts : List (List ℕ)) → Plans texts → (script : List (List Plan)) × Each (Each IsPlanOf) (sessions texts) script
session_plans [] p = ([], tt)
session_plans (t ∷ texts) p = (p.0 ∷ [], (p.1, tt))

pub some_script : (bytes : List ℕ) → InGrammar bytes → (script : List (List (List Plan))) × IsScriptOf bytes script
some_script bytes h = let s = session_plans (statements_of bytes) (line_plans (lines_of bytes) h) in (s.0 ∷ [], (s.1, tt))
