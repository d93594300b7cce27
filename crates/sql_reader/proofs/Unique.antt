-- A text has one plan.
use Rattle.std.proofs.Common.{◌≡◌, ℕ, zero, suc, ◌<◌, List, [], ◌∷◌, ◌++◌, length, get_or, arith, refl, sym, ◌∙◌, ap}
use Rattle.ids_base.specs.declared.plan.Term.{Term}
use Rattle.ids_base.specs.declared.plan.DataStatement.{DataStatement}
use Rattle.ids_base.specs.declared.plan.DataStatement.TheVariants.{CreateTable, Insert, Select, Delete}
use Rattle.ids_base.specs.declared.plan.Plan.{Plan}
use Rattle.ids_base.specs.declared.plan.Plan.TheVariants.{Data, Begin, Commit, Rollback}
use Rattle.ids_base.specs.declared.shape.Kind.{Kind as ColumnKind}
use Rattle.ids_base.specs.declared.shape.Kind.TheVariants.{Integer, Char}
use Rattle.ids_base.specs.declared.shape.Column.{Column}
use Rattle.ids_base.specs.declared.value.Value.{Value}
use Rattle.ids_base.specs.declared.value.Value.TheVariants.{Int, Chars}
use Rattle.sql_reader.specs.declared.token.Keyword.{Keyword}
use Rattle.sql_reader.specs.declared.token.Keyword.TheVariants as keyword
use Rattle.sql_reader.specs.Lines.{texts_of, sessions_in, statements_in, text_in}
use Rattle.sql_reader.specs.Plans.{Item, says_word, says_name, value_item, kind_items, shape_items, row_items, all_term_items, condition_items, statement_items, items_of_plan, items_of_tokens, IsPlanOf, Each, IsScriptOf, plans_in}
use Rattle.sql_reader.proofs.Table.{only_reading}

value_same : (a b : Value) → value_item a ≡ value_item b → a ≡ b
value_same (Int a) (Int b) e = cc
value_same (Int a) (Chars b) e = cc
value_same (Chars a) (Int b) e = cc
value_same (Chars a) (Chars b) e = cc

head_same : (x y : Item) (xs ys : List Item) → x ∷ xs ≡ y ∷ ys → x ≡ y
head_same x y xs ys e = cc

tail_same : (x y : Item) (xs ys : List Item) → x ∷ xs ≡ y ∷ ys → xs ≡ ys
tail_same x y xs ys e = cc

name_same : (n m : List ℕ) → says_name n ≡ says_name m → n ≡ m
name_same n m e = cc

-- the parts of a column and of what stands behind it
pub record SameColumn (n m : List ℕ) (k l : ColumnKind) (xs ys : List Item) : Type 0 where
  pub name : n ≡ m
  pub kind : k ≡ l
  pub rest : xs ≡ ys

column_same : (n m : List ℕ) (k l : ColumnKind) (xs ys : List Item) → says_name n ∷ (kind_items k ++ xs) ≡ says_name m ∷ (kind_items l ++ ys) → SameColumn n m k l xs ys
column_same n m Integer Integer xs ys e = record { name = cc; kind = refl; rest = cc }
column_same n m Integer (Char b) xs ys e = cc
column_same n m (Char a) Integer xs ys e = cc
column_same n m (Char a) (Char b) xs ys e = record { name = cc; kind = cc; rest = cc }

column_of : (x y : Column) → x.name ≡ y.name → x.kind ≡ y.kind → x ≡ y
column_of x y a b = ap (λ v. let c : Column = record { name = v; kind = x.kind } in c) a ∙ ap (λ v. let c : Column = record { name = y.name; kind = v } in c) b

shape_same : (xs ys : List Column) → shape_items xs ≡ shape_items ys → xs ≡ ys
shape_same [] [] e = refl
shape_same [] (y ∷ ys) e = cc
shape_same (x ∷ xs) [] e = cc
shape_same (x ∷ xs) (y ∷ ys) e =
    let s : SameColumn x.name y.name x.kind y.kind (shape_items xs) (shape_items ys) = column_same x.name y.name x.kind y.kind (shape_items xs) (shape_items ys) e in
    ap (λ v. v ∷ xs) (column_of x y s.name s.kind) ∙ ap (λ v. y ∷ v) (shape_same xs ys s.rest)

row_same : (xs ys : List Value) → row_items xs ≡ row_items ys → xs ≡ ys
row_same [] [] e = refl
row_same [] (y ∷ ys) e = cc
row_same (x ∷ xs) [] e = cc
row_same (x ∷ xs) (y ∷ ys) e = ap (λ v. v ∷ xs) (value_same x y (head_same _ _ _ _ e)) ∙ ap (λ v. y ∷ v) (row_same xs ys (tail_same _ _ _ _ e))

term_of : (x y : Term) → x.column ≡ y.column → x.comparison ≡ y.comparison → x.value ≡ y.value → x ≡ y
term_of x y a b d = ap (λ v. let t : Term = record { column = v; comparison = x.comparison; value = x.value } in t) a ∙ ap (λ v. let t : Term = record { column = y.column; comparison = v; value = x.value } in t) b
    ∙ ap (λ v. let t : Term = record { column = y.column; comparison = y.comparison; value = v } in t) d

terms_same : (xs ys : List Term) → all_term_items xs ≡ all_term_items ys → xs ≡ ys
terms_same [] [] e = refl
terms_same [] (y ∷ ys) e = cc
terms_same (x ∷ xs) [] e = cc
terms_same (x ∷ xs) (y ∷ ys) e =
    let a : x.column ≡ y.column = cc in
    let b : x.comparison ≡ y.comparison = cc in
    let d : value_item x.value ≡ value_item y.value = cc in
    let f : all_term_items xs ≡ all_term_items ys = cc in
    ap (λ v. v ∷ xs) (term_of x y a b (value_same x.value y.value d)) ∙ ap (λ v. y ∷ v) (terms_same xs ys f)

condition_same : (xs ys : List Term) → condition_items xs ≡ condition_items ys → xs ≡ ys
condition_same [] [] e = refl
condition_same [] (y ∷ ys) e = cc
condition_same (x ∷ xs) [] e = cc
condition_same (x ∷ xs) (y ∷ ys) e = terms_same (x ∷ xs) (y ∷ ys) (tail_same _ _ _ _ e)

statement_same : (x y : DataStatement) → statement_items x ≡ statement_items y → x ≡ y
statement_same (CreateTable a xs) (CreateTable b ys) e = let h : a ≡ b = cc in let t : shape_items xs ≡ shape_items ys = cc in ap (λ v. CreateTable v xs) h ∙ ap (λ v. CreateTable b v) (shape_same xs ys t)
statement_same (CreateTable a xs) (Insert b ys) e = cc
statement_same (CreateTable a xs) (Select b ys) e = cc
statement_same (CreateTable a xs) (Delete b ys) e = cc
statement_same (Insert a xs) (CreateTable b ys) e = cc
statement_same (Insert a xs) (Insert b ys) e = let h : a ≡ b = cc in let t : row_items xs ≡ row_items ys = cc in ap (λ v. Insert v xs) h ∙ ap (λ v. Insert b v) (row_same xs ys t)
statement_same (Insert a xs) (Select b ys) e = cc
statement_same (Insert a xs) (Delete b ys) e = cc
statement_same (Select a xs) (CreateTable b ys) e = cc
statement_same (Select a xs) (Insert b ys) e = cc
statement_same (Select a xs) (Select b ys) e = let h : a ≡ b = cc in let t : condition_items xs ≡ condition_items ys = cc in ap (λ v. Select v xs) h ∙ ap (λ v. Select b v) (condition_same xs ys t)
statement_same (Select a xs) (Delete b ys) e = cc
statement_same (Delete a xs) (CreateTable b ys) e = cc
statement_same (Delete a xs) (Insert b ys) e = cc
statement_same (Delete a xs) (Select b ys) e = cc
statement_same (Delete a xs) (Delete b ys) e = let h : a ≡ b = cc in let t : condition_items xs ≡ condition_items ys = cc in ap (λ v. Delete v xs) h ∙ ap (λ v. Delete b v) (condition_same xs ys t)

-- a statement over tables says more than its first word
no_bare : (x : DataStatement) (w : Keyword) → statement_items x ≡ says_word w ∷ [] → ⊥
no_bare (CreateTable a xs) w e = cc
no_bare (Insert a xs) w e = cc
no_bare (Select a xs) w e = cc
no_bare (Delete a xs) w e = cc

plan_same : (p q : Plan) → items_of_plan p ≡ items_of_plan q → p ≡ q
plan_same (Data x) (Data y) e = ap Data (statement_same x y e)
plan_same (Data x) Begin e = absurd (no_bare x keyword.Begin e)
plan_same (Data x) Commit e = absurd (no_bare x keyword.Commit e)
plan_same (Data x) Rollback e = absurd (no_bare x keyword.Rollback e)
plan_same Begin (Data y) e = absurd (no_bare y keyword.Begin (sym e))
plan_same Begin Begin e = refl
plan_same Begin Commit e = cc
plan_same Begin Rollback e = cc
plan_same Commit (Data y) e = absurd (no_bare y keyword.Commit (sym e))
plan_same Commit Begin e = cc
plan_same Commit Commit e = refl
plan_same Commit Rollback e = cc
plan_same Rollback (Data y) e = absurd (no_bare y keyword.Rollback (sym e))
plan_same Rollback Begin e = cc
plan_same Rollback Commit e = cc
plan_same Rollback Rollback e = refl

pub one_plan : (bytes : List ℕ) (p q : Plan) → IsPlanOf bytes p → IsPlanOf bytes q → p ≡ q
one_plan bytes p q (ts, a, s) (us, b, t) = plan_same p q (sym s ∙ ap items_of_tokens (only_reading bytes ts us a b) ∙ t)

each_same : {A B : Type 0} (R : A → B → Type 0) → ((x : A) (y z : B) → R x y → R x z → y ≡ z) → (xs : List A) (ys zs : List B) → Each R xs ys → Each R xs zs → ys ≡ zs
each_same R one [] [] [] h k = refl
each_same R one [] [] (z ∷ zs) h k = absurd k
each_same R one [] (y ∷ ys) zs h k = absurd h
each_same R one (x ∷ xs) [] zs h k = absurd h
each_same R one (x ∷ xs) (y ∷ ys) [] h k = absurd k
each_same R one (x ∷ xs) (y ∷ ys) (z ∷ zs) h k = ap (λ v. v ∷ ys) (one x y z h.0 k.0) ∙ ap (λ v. z ∷ v) (each_same R one xs ys zs h.1 k.1)

pub one_script : (bytes : List ℕ) (a b : List (List (List Plan))) → IsScriptOf bytes a → IsScriptOf bytes b → a ≡ b
one_script bytes a b h k = each_same (Each (Each IsPlanOf)) (each_same (Each IsPlanOf) (each_same IsPlanOf one_plan)) (texts_of bytes) a b h k

-- PLACE BY PLACE

each_length : {A B : Type 0} (R : A → B → Type 0) (xs : List A) (ys : List B) → Each R xs ys → length ys ≡ length xs
each_length R [] [] h = refl
each_length R [] (y ∷ ys) h = absurd h
each_length R (x ∷ xs) [] h = absurd h
each_length R (x ∷ xs) (y ∷ ys) h = ap suc (each_length R xs ys h.1)

each_in : {A B : Type 0} (R : A → B → Type 0) (xs : List (List A)) (ys : List (List B)) (i : ℕ) → Each (Each R) xs ys → Each R (get_or xs i []) (get_or ys i [])
each_in R [] [] i h = tt
each_in R [] (y ∷ ys) i h = absurd h
each_in R (x ∷ xs) [] i h = absurd h
each_in R (x ∷ xs) (y ∷ ys) zero h = h.0
each_in R (x ∷ xs) (y ∷ ys) (suc i) h = each_in R xs ys i h.1

each_at : {A B : Type 0} (R : A → B → Type 0) (xs : List A) (ys : List B) (i : ℕ) (d : A) (e : B) → Each R xs ys → i < length xs → R (get_or xs i d) (get_or ys i e)
each_at R [] ys i d e h a = absurd (omega (arith, a))
each_at R (x ∷ xs) [] i d e h a = absurd h
each_at R (x ∷ xs) (y ∷ ys) zero d e h a = h.0
each_at R (x ∷ xs) (y ∷ ys) (suc i) d e h a = each_at R xs ys i d e h.1 (omega (arith, a))

pub same_phases : (bytes : List ℕ) (script : List (List (List Plan))) → IsScriptOf bytes script → length script ≡ length (texts_of bytes)
same_phases bytes script h = each_length (Each (Each IsPlanOf)) (texts_of bytes) script h

pub same_sessions : (bytes : List ℕ) (script : List (List (List Plan))) (p : ℕ) → IsScriptOf bytes script → length (get_or script p []) ≡ length (sessions_in (texts_of bytes) p)
same_sessions bytes script p h = each_length (Each IsPlanOf) (sessions_in (texts_of bytes) p) (get_or script p []) (each_in (Each IsPlanOf) (texts_of bytes) script p h)

plans_there : (bytes : List ℕ) (script : List (List (List Plan))) (p s : ℕ) → IsScriptOf bytes script → Each IsPlanOf (statements_in (texts_of bytes) p s) (plans_in script p s)
plans_there bytes script p s h = each_in IsPlanOf (sessions_in (texts_of bytes) p) (get_or script p []) s (each_in (Each IsPlanOf) (texts_of bytes) script p h)

pub same_statements : (bytes : List ℕ) (script : List (List (List Plan))) (p s : ℕ) → IsScriptOf bytes script → length (plans_in script p s) ≡ length (statements_in (texts_of bytes) p s)
same_statements bytes script p s h = each_length IsPlanOf (statements_in (texts_of bytes) p s) (plans_in script p s) (plans_there bytes script p s h)

pub plan_there : (bytes : List ℕ) (script : List (List (List Plan))) (p s n : ℕ) (d : Plan) → IsScriptOf bytes script → n < length (statements_in (texts_of bytes) p s) → IsPlanOf (text_in (texts_of bytes) p s n) (get_or (plans_in script p s) n d)
plan_there bytes script p s n d h a = each_at IsPlanOf (statements_in (texts_of bytes) p s) (plans_in script p s) n [] d (plans_there bytes script p s h) a
