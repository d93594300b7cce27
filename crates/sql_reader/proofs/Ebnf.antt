-- A grammar against a table of places.
use Rattle.std.proofs.Common.{◌≡◌, Bool, true, false, ◌&&◌, ◌||◌, List, [], ◌∷◌, ◌++◌, ◌⊎◌, inl, inr, refl, sym, ◌∙◌, ap, subst, append_assoc, cond}
use Rattle.sql_reader.specs.Form.{Lexicon, InRow, Runs}
use Rattle.sql_reader.specs.Ebnf.{Grammar, nothing, token, both, either, many, Pieces, done, piece, Derives}
use Rattle.sql_reader.proofs.Form.{true_false}

abbrev pub nullable : {K : Type 0} → Grammar K → Bool
nullable nothing = true
nullable (token k) = false
nullable (both a b) = nullable a && nullable b
nullable (either a b) = nullable a || nullable b
nullable (many a) = true

-- one after the other, in a normal form
abbrev pub seq : {K : Type 0} → Grammar K → Grammar K → Grammar K
seq nothing c = c
seq (token k) c = both (token k) c
seq (both a b) c = seq a (seq b c)
seq (either a b) c = both (either a b) c
seq (many a) c = both (many a) c

abbrev pub then_all : {K : Type 0} → List (K × Grammar K) → Grammar K → List (K × Grammar K)
then_all [] b = []
then_all (x ∷ xs) b = (x.0, seq x.1 b) ∷ then_all xs b

-- the first tokens, and what may follow each
abbrev pub heads : {K : Type 0} → Grammar K → List (K × Grammar K)
heads nothing = []
heads (token k) = (k, nothing) ∷ []
heads (both a b) = then_all (heads a) b ++ cond (nullable a) (heads b) []
heads (either a b) = heads a ++ heads b
heads (many a) = then_all (heads a) (many a)

or_left : (a b : Bool) → a ≡ true → (a || b) ≡ true
or_left true b h = refl
or_left false b h = true_false h refl

nullable_of : {K : Type 0} (g : Grammar K) → Derives g [] → nullable g ≡ true
nullable_of nothing d = refl
nullable_of (token k) d = absurd (cc)
nullable_of (both a b) ([], [], e, x, y) = both_true (nullable_of a x) (nullable_of b y)
  where
    both_true : {a b : Bool} → a ≡ true → b ≡ true → (a && b) ≡ true
    both_true {a} {b} h k = rw h k
nullable_of (both a b) (z ∷ xs, ys, e, x, y) = absurd (cc)
nullable_of (both a b) ([], z ∷ ys, e, x, y) = absurd (cc)
nullable_of (either a b) (inl x) = or_left _ _ (nullable_of a x)
nullable_of (either a b) (inr x) = or_right (nullable a) _ (nullable_of b x)
  where
    or_right : (a b : Bool) → b ≡ true → (a || b) ≡ true
    or_right true b h = refl
    or_right false b h = h
nullable_of (many a) d = refl

of_nullable : {K : Type 0} (g : Grammar K) → nullable g ≡ true → Derives g []
of_nullable nothing h = refl
of_nullable (token k) h = true_false h refl
of_nullable (both a b) h = ([], [], refl, of_nullable a (left _ _ h), of_nullable b (right _ _ h))
  where
    left : (a b : Bool) → (a && b) ≡ true → a ≡ true
    left true b h = refl
    left false b h = h

    right : (a b : Bool) → (a && b) ≡ true → b ≡ true
    right true b h = h
    right false b h = true_false h refl
of_nullable (either a b) h = elim (cases (nullable a) (nullable b) h) [ inl x ↦ inl (of_nullable a x) | inr y ↦ inr (of_nullable b y) ]
  where
    cases : (a b : Bool) → (a || b) ≡ true → (a ≡ true) ⊎ (b ≡ true)
    cases true b h = inl h
    cases false b h = inr h
of_nullable (many a) h = done [] refl

-- the normal form keeps the language
seq_in : {K : Type 0} (a c : Grammar K) (xs ys : List K) → Derives a xs → Derives c ys → Derives (seq a c) (xs ++ ys)
seq_in nothing c xs ys d e = subst (λ v. Derives c (v ++ ys)) (sym d) e
seq_in (token k) c xs ys d e = (xs, ys, refl, d, e)
seq_in (both a b) c xs ys (us, vs, is, x, y) e = subst (Derives (seq a (seq b c))) (sym (append_assoc us vs ys) ∙ ap (λ v. v ++ ys) (sym is)) (seq_in a (seq b c) us (vs ++ ys) x (seq_in b c vs ys y e))
seq_in (either a b) c xs ys d e = (xs, ys, refl, d, e)
seq_in (many a) c xs ys d e = (xs, ys, refl, d, e)

seq_out : {K : Type 0} (a c : Grammar K) (ks : List K) → Derives (seq a c) ks → (xs : List K) × (ys : List K) × (ks ≡ xs ++ ys) × Derives a xs × Derives c ys
seq_out nothing c ks d = ([], ks, refl, refl, d)
seq_out (token k) c ks d = d
seq_out (both a b) c ks d = let o = seq_out a (seq b c) ks d in let p = seq_out b c o.1 o.4 in
    (o.0 ++ p.0, p.1, o.2 ∙ ap (λ v. o.0 ++ v) p.2 ∙ sym (append_assoc o.0 p.0 p.1), (o.0, p.0, refl, o.3, p.3), p.4)
seq_out (either a b) c ks d = d
seq_out (many a) c ks d = d

-- a row of heads
abbrev pub InHeads : {K : Type 0} → List (K × Grammar K) → K → List K → Type 0
InHeads [] k ks = ⊥
InHeads (x ∷ xs) k ks = ((x.0 ≡ k) × Derives x.1 ks) ⊎ InHeads xs k ks

in_left : {K : Type 0} (xs ys : List (K × Grammar K)) (k : K) (ks : List K) → InHeads xs k ks → InHeads (xs ++ ys) k ks
in_left [] ys k ks i = absurd i
in_left (x ∷ xs) ys k ks (inl h) = inl h
in_left (x ∷ xs) ys k ks (inr i) = inr (in_left xs ys k ks i)

in_right : {K : Type 0} (xs ys : List (K × Grammar K)) (k : K) (ks : List K) → InHeads ys k ks → InHeads (xs ++ ys) k ks
in_right [] ys k ks i = i
in_right (x ∷ xs) ys k ks i = inr (in_right xs ys k ks i)

in_split : {K : Type 0} (xs ys : List (K × Grammar K)) (k : K) (ks : List K) → InHeads (xs ++ ys) k ks → InHeads xs k ks ⊎ InHeads ys k ks
in_split [] ys k ks i = inr i
in_split (x ∷ xs) ys k ks (inl h) = inl (inl h)
in_split (x ∷ xs) ys k ks (inr i) = elim (in_split xs ys k ks i) [ inl a ↦ inl (inr a) | inr b ↦ inr b ]

then_in : {K : Type 0} (xs : List (K × Grammar K)) (b : Grammar K) (k : K) (us vs : List K) → InHeads xs k us → Derives b vs → InHeads (then_all xs b) k (us ++ vs)
then_in [] b k us vs i d = absurd i
then_in (x ∷ xs) b k us vs (inl h) d = inl (h.0, seq_in x.1 b us vs h.1 d)
then_in (x ∷ xs) b k us vs (inr i) d = inr (then_in xs b k us vs i d)

then_out : {K : Type 0} (xs : List (K × Grammar K)) (b : Grammar K) (k : K) (ks : List K) → InHeads (then_all xs b) k ks → (us : List K) × (vs : List K) × (ks ≡ us ++ vs) × InHeads xs k us × Derives b vs
then_out [] b k ks i = absurd i
then_out (x ∷ xs) b k ks (inl h) = let o = seq_out x.1 b ks h.1 in (o.0, o.1, o.2, inl (h.0, o.3), o.4)
then_out (x ∷ xs) b k ks (inr i) = let o = then_out xs b k ks i in (o.0, o.1, o.2, inr o.3, o.4)

cond_true : {A : Type 0} (b : Bool) (x y : A) → b ≡ true → cond b x y ≡ x
cond_true b x y h = rw h refl

pieces_head : {K : Type 0} (a : Grammar K) (k : K) (ks zs : List K) → ((us : List K) → Derives a (k ∷ us) → InHeads (heads a) k us) → Pieces (Derives a) zs → zs ≡ k ∷ ks → InHeads (then_all (heads a) (many a)) k ks
pieces_head a k ks zs ih (done _ e) is = absurd (cc)
pieces_head a k ks zs ih (piece _ [] ys e x more) is = pieces_head a k ks ys ih more (sym e ∙ is)
pieces_head a k ks zs ih (piece _ (l ∷ xs) ys e x more) is =
    let l_is : l ≡ k = cc in
    let rest_is : xs ++ ys ≡ ks = cc in
    subst (InHeads (then_all (heads a) (many a)) k) rest_is (then_in (heads a) (many a) k xs ys (ih xs (subst (λ v. Derives a (v ∷ xs)) l_is x)) more)

head_in : {K : Type 0} (g : Grammar K) (k : K) (ks : List K) → Derives g (k ∷ ks) → InHeads (heads g) k ks
head_in nothing k ks d = absurd (cc)
head_in (token l) k ks d = inl (let e : l ≡ k = cc in e, let e : ks ≡ [] = cc in e)
head_in (both a b) k ks ([], ys, e, x, y) = in_right (then_all (heads a) b) _ k ks (subst (λ v. InHeads v k ks) (sym (cond_true (nullable a) (heads b) [] (nullable_of a x))) (head_in b k ks (subst (Derives b) (sym e) y)))
head_in (both a b) k ks (l ∷ xs, ys, e, x, y) =
    let l_is : l ≡ k = cc in
    let rest_is : xs ++ ys ≡ ks = cc in
    in_left (then_all (heads a) b) _ k ks (subst (InHeads (then_all (heads a) b) k) rest_is (then_in (heads a) b k xs ys (head_in a k xs (subst (λ v. Derives a (v ∷ xs)) l_is x)) y))
head_in (either a b) k ks (inl x) = in_left (heads a) (heads b) k ks (head_in a k ks x)
head_in (either a b) k ks (inr y) = in_right (heads a) (heads b) k ks (head_in b k ks y)
head_in (many a) k ks d = pieces_head a k ks (k ∷ ks) (λ us x. head_in a k us x) d refl

cond_none : {K : Type 0} (b : Bool) (xs : List (K × Grammar K)) (k : K) (ks : List K) → InHeads (cond b xs []) k ks → (b ≡ true) × InHeads xs k ks
cond_none true xs k ks i = (refl, i)
cond_none false xs k ks i = absurd i

head_out : {K : Type 0} (g : Grammar K) (k : K) (ks : List K) → InHeads (heads g) k ks → Derives g (k ∷ ks)
head_out nothing k ks i = absurd i
head_out (token l) k ks (inl e) = cc
head_out (token l) k ks (inr i) = absurd i
head_out (both a b) k ks i = elim (in_split (then_all (heads a) b) _ k ks i) [
  | inl j ↦ (let o = then_out (heads a) b k ks j in (k ∷ o.0, o.1, ap (λ v. k ∷ v) o.2, head_out a k o.0 o.3, o.4))
  | inr j ↦ (let o = cond_none (nullable a) (heads b) k ks j in ([], k ∷ ks, refl, of_nullable a o.0, head_out b k ks o.1))
]
head_out (either a b) k ks i = elim (in_split (heads a) (heads b) k ks i) [ inl j ↦ inl (head_out a k ks j) | inr j ↦ inr (head_out b k ks j) ]
head_out (many a) k ks i = let o = then_out (heads a) (many a) k ks i in piece (k ∷ ks) (k ∷ o.0) o.1 (ap (λ v. k ∷ v) o.2) (head_out a k o.0 o.3) o.4

-- A TABLE OF A GRAMMAR
abbrev pub as_heads : {K Q : Type 0} → (Q → Grammar K) → List (K × Q) → List (K × Grammar K)
as_heads rest [] = []
as_heads rest (x ∷ xs) = (x.0, rest x.1) ∷ as_heads rest xs

-- what may follow each place
pub record IsTable {K Q : Type 0} (g : Lexicon K Q) (rest : Q → Grammar K) : Type 0 where
  pub rows : (q : Q) → heads (rest q) ≡ as_heads rest (g.row q)
  pub lasts : (q : Q) → nullable (rest q) ≡ g.last q

row_in : {K Q : Type 0} (rest : Q → Grammar K) (rows : List (K × Q)) (k : K) (ks : List K) → InHeads (as_heads rest rows) k ks → (r : Q) × InRow rows k r × Derives (rest r) ks
row_in rest [] k ks i = absurd i
row_in rest (x ∷ xs) k ks (inl h) = (x.1, inl (h.0, refl), h.1)
row_in rest (x ∷ xs) k ks (inr i) = let o = row_in rest xs k ks i in (o.0, inr o.1, o.2)

row_out : {K Q : Type 0} (rest : Q → Grammar K) (rows : List (K × Q)) (k : K) (r : Q) (ks : List K) → InRow rows k r → Derives (rest r) ks → InHeads (as_heads rest rows) k ks
row_out rest [] k r ks i d = absurd i
row_out rest (x ∷ xs) k r ks (inl h) d = inl (h.0, subst (λ v. Derives (rest v) ks) (sym h.1) d)
row_out rest (x ∷ xs) k r ks (inr i) d = inr (row_out rest xs k r ks i d)

-- the table runs on exactly what the grammar derives
pub runs_of : {K Q : Type 0} (g : Lexicon K Q) (rest : Q → Grammar K) → IsTable g rest → (q : Q) (ks : List K) → Derives (rest q) ks → Runs g q ks
runs_of g rest t q [] d = sym (t.lasts q) ∙ nullable_of (rest q) d
runs_of g rest t q (k ∷ ks) d = let o = row_in rest (g.row q) k ks (subst (λ v. InHeads v k ks) (t.rows q) (head_in (rest q) k ks d)) in (o.0, o.1, runs_of g rest t o.0 ks o.2)

pub derives_of : {K Q : Type 0} (g : Lexicon K Q) (rest : Q → Grammar K) → IsTable g rest → (q : Q) (ks : List K) → Runs g q ks → Derives (rest q) ks
derives_of g rest t q [] d = of_nullable (rest q) (t.lasts q ∙ d)
derives_of g rest t q (k ∷ ks) (r, i, d) = head_out (rest q) k ks (subst (λ v. InHeads v k ks) (sym (t.rows q)) (row_out rest (g.row q) k r ks i (derives_of g rest t r ks d)))
