-- What a place's language becomes behind a token.
use Rattle.std.proofs.Common.{◌≡◌, ℕ, Bool, true, false, List, [], ◌∷◌, ◌++◌, inl, inr, refl, sym, ◌∙◌, ap, subst, append_assoc, arith}
use Rattle.sql_reader.specs.declared.token.Edge.{Edge}
use Rattle.sql_reader.specs.declared.token.Edge.TheVariants.{Free, Wordy, Closed}
use Rattle.sql_reader.specs.Form.{kinds, Reads, Lexicon, InRow, Runs, is_gap, is_open, fits, Spelled, From, Sound, Lawful}

pub true_false : {A : Type 0} {b : Bool} → b ≡ true → b ≡ false → A
true_false t f = absurd (cc)

-- what a front leaves: the two ways of cutting one list
-- either the first front goes beyond the second, or ends there, or before it
pub data Cut (p w token rest : List ℕ) : Type 0 where
  same : token ≡ p → rest ≡ w → Cut p w token rest
  longer : (c : ℕ) (u : List ℕ) → token ≡ p ++ (c ∷ u) → w ≡ (c ∷ u) ++ rest → Cut p w token rest
  shorter : (c : ℕ) (u : List ℕ) → p ≡ token ++ (c ∷ u) → rest ≡ (c ∷ u) ++ w → Cut p w token rest

cons_cut : (b d : ℕ) {p w token rest : List ℕ} → b ≡ d → Cut p w token rest → Cut (b ∷ p) w (d ∷ token) rest
cons_cut b d e (same h t) = same (cc) t
cons_cut b d e (longer c u h t) = longer c u (cc) t
cons_cut b d e (shorter c u h t) = shorter c u (cc) t

pub cut : (p w token rest : List ℕ) → p ++ w ≡ token ++ rest → Cut p w token rest
cut [] w [] rest e = same refl (sym e)
cut [] w (d ∷ token) rest e = longer d token refl e
cut (b ∷ p) w [] rest e = shorter b p refl (sym e)
cut (b ∷ p) w (d ∷ token) rest e = cons_cut b d (cc) (cut p w token rest (cc))

gap_head : (blank : ℕ → Bool) (e : Edge) (d : ℕ) (gap : List ℕ) → is_gap blank e (d ∷ gap) ≡ true → is_gap blank e (d ∷ []) ≡ true
gap_head blank Free d gap h = grind arith
gap_head blank Wordy d gap h = grind arith
gap_head blank Closed d gap h = absurd (cc)

gap_more : (blank : ℕ → Bool) (e : Edge) (d : ℕ) (gap : List ℕ) → is_gap blank e (d ∷ gap) ≡ true → is_gap blank Free gap ≡ true
gap_more blank Free d gap h = grind arith
gap_more blank Wordy d gap h = grind arith
gap_more blank Closed d gap h = absurd (cc)

gap_cons : (blank : ℕ → Bool) (e : Edge) (d : ℕ) (gap : List ℕ) → is_open e ≡ true → blank d ≡ true → is_gap blank Free gap ≡ true → is_gap blank e (d ∷ gap) ≡ true
gap_cons blank Free d gap o b h = grind arith
gap_cons blank Wordy d gap o b h = grind arith
gap_cons blank Closed d gap o b h = absurd (cc)

gap_blank : (blank : ℕ → Bool) (e : Edge) (d : ℕ) (gap : List ℕ) → is_gap blank e (d ∷ gap) ≡ true → blank d ≡ true
gap_blank blank Free d gap h = grind arith
gap_blank blank Wordy d gap h = grind arith
gap_blank blank Closed d gap h = absurd (cc)

-- Behind a blank anything may come that came before it, and a word too.
after_blank : {K Q : Type 0} (g : Lexicon K Q) (laws : Lawful g) (e : Edge) (b : ℕ) (w : List ℕ) (ks : List K) → g.blank b ≡ true → Spelled g e ks (b ∷ w) → Spelled g Free ks w
after_blank g laws e b w [] h s = gap_more g.blank e b w s
after_blank g laws e b w (k ∷ ks) h ([], [], rest, cut, gap, is, apart, tail) = true_false is (laws.sound.some k)
after_blank g laws e b w (k ∷ ks) h ([], d ∷ token, rest, cut, gap, is, apart, tail) = true_false {b = g.blank b} h (ap g.blank (let e1 : b ≡ d = cc in e1) ∙ laws.sound.solid k d token (laws.sound.starts k (d ∷ token) is))
after_blank g laws e b w (k ∷ ks) h (d ∷ gap, token, rest, cut, is_gap', is, apart, tail) = (gap, token, rest, cc, gap_more g.blank e d gap is_gap', is, inr refl, tail)

pub blank_in : {K Q : Type 0} (g : Lexicon K Q) (laws : Lawful g) (q : Q) (e : Edge) (b : ℕ) (w : List ℕ) → g.blank b ≡ true → From g q e (b ∷ w) → From g q Free w
blank_in g laws q e b w h f = (f.0, f.1, after_blank g laws e b w f.0 h f.2)

before_blank : {K Q : Type 0} (g : Lexicon K Q) (e : Edge) (b : ℕ) (w : List ℕ) (ks : List K) → is_open e ≡ true → g.blank b ≡ true → Spelled g Free ks w → Spelled g e ks (b ∷ w)
before_blank g e b w [] o h s = gap_cons g.blank e b w o h s
before_blank g e b w (k ∷ ks) o h s = (b ∷ s.0, s.1, s.2, ap (λ v. b ∷ v) s.3, gap_cons g.blank e b s.0 o h s.4, s.5, inl refl, s.7)

pub blank_out : {K Q : Type 0} (g : Lexicon K Q) (q : Q) (e : Edge) (b : ℕ) (w : List ℕ) → is_open e ≡ true → g.blank b ≡ true → From g q Free w → From g q e (b ∷ w)
blank_out g q e b w o h f = (f.0, f.1, before_blank g e b w f.0 o h f.2)

-- no token of the place goes on with the first byte of w
abbrev pub Stops : {K Q : Type 0} → Lexicon K Q → Q → Edge → List ℕ → List ℕ → Type 0
Stops {K} {Q} g q e p w = (k : K) (r : Q) → InRow (g.row q) k r → fits (g.clings k) e ≡ true → (d : ℕ) (x : List ℕ) → w ≡ d ∷ x → g.begins k (p ++ (d ∷ [])) ≡ false

-- a token of the place stands here, and the rest is what may follow it
abbrev pub Takes : {K Q : Type 0} → Lexicon K Q → Q → Edge → List ℕ → List ℕ → Type 0
Takes {K} {Q} g q e p w = (k : K) × (r : Q) × InRow (g.row q) k r × (fits (g.clings k) e ≡ true) × (g.whole k p ≡ true) × From g r (g.edge k) w

no_gap : (blank : ℕ → Bool) (e : Edge) → is_gap blank e [] ≡ true
no_gap blank Free = refl
no_gap blank Wordy = refl
no_gap blank Closed = refl

pub take_token : {K Q : Type 0} (g : Lexicon K Q) (q : Q) (e : Edge) (p w : List ℕ) → Takes g q e p w → From g q e (p ++ w)
take_token g q e p w t = (t.0 ∷ (t.5).0, (t.1, t.2, (t.5).1), ([], p, w, refl, no_gap g.blank e, t.4, inr t.3, (t.5).2))

munch_cut : {K Q : Type 0} (g : Lexicon K Q) (laws : Lawful g) (q : Q) (e : Edge) (p w : List ℕ)
    (k : K) (r : Q) → InRow (g.row q) k r → g.begins k p ≡ true → Stops g q e p w
    → (l : K) (s : Q) → InRow (g.row q) l s → fits (g.clings l) e ≡ true → (token rest : List ℕ) → g.whole l token ≡ true → From g s (g.edge l) rest
    → Cut p w token rest → Takes g q e p w
munch_cut g laws q e p w k r inrow reach stops l s in_l fit token rest is tail (same h t) =
    (l, s, in_l, fit, subst (λ v. g.whole l v ≡ true) h is, subst (λ v. From g s (g.edge l) v) t tail)
munch_cut g laws q e p w k r inrow reach stops l s in_l fit token rest is tail (longer c u h t) =
    true_false (laws.sound.front l (p ++ (c ∷ [])) u (laws.sound.starts l _ (subst (λ v. g.whole l v ≡ true) (h ∙ sym (append_assoc p (c ∷ []) u)) is))) (stops l s in_l fit c (u ++ rest) t)
munch_cut g laws q e p w k r inrow reach stops l s in_l fit token rest is tail (shorter c u h t) =
    absurd (laws.clash q l k s r in_l inrow token c (u ++ w) is (laws.sound.front k (token ++ (c ∷ [])) u (subst (λ v. g.begins k v ≡ true) (h ∙ sym (append_assoc token (c ∷ []) u)) reach)) (subst (λ v. From g s (g.edge l) v) t tail))

munch_spelled : {K Q : Type 0} (g : Lexicon K Q) (laws : Lawful g) (q : Q) (e : Edge) (c : ℕ) (p w : List ℕ)
    → is_gap g.blank e (c ∷ []) ≡ false
    → (k : K) (r : Q) → InRow (g.row q) k r → g.begins k (c ∷ p) ≡ true → Stops g q e (c ∷ p) w
    → (ks : List K) → Runs g q ks → Spelled g e ks (c ∷ (p ++ w)) → Takes g q e (c ∷ p) w
munch_spelled g laws q e c p w solid k r inrow reach stops [] run s = true_false (gap_head g.blank e c (p ++ w) s) solid
munch_spelled g laws q e c p w solid k r inrow reach stops (l ∷ ks) run ([], token, rest, whole, gap, is, inl apart, tail) = true_false {b = true} refl apart
munch_spelled g laws q e c p w solid k r inrow reach stops (l ∷ ks) run ([], token, rest, whole, gap, is, inr apart, tail) =
    munch_cut g laws q e (c ∷ p) w k r inrow reach stops l run.0 run.1 apart token rest is (ks, run.2, tail) (cut (c ∷ p) w token rest whole)
munch_spelled g laws q e c p w solid k r inrow reach stops (l ∷ ks) run (d ∷ gap, token, rest, whole, is_gap', is, apart, tail) =
    true_false (gap_head g.blank e d gap is_gap') (ap (λ v. is_gap g.blank e (v ∷ [])) (let e1 : d ≡ c = cc in e1) ∙ solid)

-- What goes on from p as far as tokens of the place do, and no further, has the token p at its front.
pub munch : {K Q : Type 0} (g : Lexicon K Q) (laws : Lawful g) (q : Q) (e : Edge) (c : ℕ) (p w : List ℕ)
    → is_gap g.blank e (c ∷ []) ≡ false
    → (k : K) (r : Q) → InRow (g.row q) k r → g.begins k (c ∷ p) ≡ true → Stops g q e (c ∷ p) w
    → From g q e ((c ∷ p) ++ w) → Takes g q e (c ∷ p) w
munch g laws q e c p w solid k r inrow reach stops f = munch_spelled g laws q e c p w solid k r inrow reach stops f.0 f.1 f.2

barred_spelled : {K Q : Type 0} (g : Lexicon K Q) (laws : Sound g) (q : Q) (e : Edge) (c : ℕ) (w : List ℕ)
    → is_gap g.blank e (c ∷ []) ≡ false → Stops g q e [] (c ∷ w)
    → (ks : List K) → Runs g q ks → Spelled g e ks (c ∷ w) → ⊥
barred_spelled g laws q e c w solid stops [] run s = true_false (gap_head g.blank e c w s) solid
barred_spelled g laws q e c w solid stops (l ∷ ks) run ([], token, rest, whole, gap, is, inl apart, tail) = true_false {b = true} refl apart
barred_spelled g laws q e c w solid stops (l ∷ ks) run ([], [], rest, whole, gap, is, inr apart, tail) = true_false is (laws.some l)
barred_spelled g laws q e c w solid stops (l ∷ ks) run ([], d ∷ token, rest, whole, gap, is, inr apart, tail) =
    true_false (laws.front l (d ∷ []) token (laws.starts l (d ∷ token) is)) (stops l run.0 run.1 apart d w (ap (λ v. v ∷ w) (let e1 : c ≡ d = cc in e1)))
barred_spelled g laws q e c w solid stops (l ∷ ks) run (d ∷ gap, token, rest, whole, is_gap', is, apart, tail) =
    true_false (gap_head g.blank e d gap is_gap') (ap (λ v. is_gap g.blank e (v ∷ [])) (let e1 : d ≡ c = cc in e1) ∙ solid)

-- Where no token begins with c, nothing goes on with it.
pub barred : {K Q : Type 0} (g : Lexicon K Q) (laws : Sound g) (q : Q) (e : Edge) (c : ℕ) (w : List ℕ)
    → is_gap g.blank e (c ∷ []) ≡ false → Stops g q e [] (c ∷ w) → From g q e (c ∷ w) → ⊥
barred g laws q e c w solid stops f = barred_spelled g laws q e c w solid stops f.0 f.1 f.2

-- the end of the bytes
pub at_end : {K Q : Type 0} (g : Lexicon K Q) (laws : Lawful g) (q : Q) (e : Edge) → From g q e [] → g.last q ≡ true
at_end g laws q e (ks, run, s) = at_end_spelled g laws q e ks run s
  where
    at_end_spelled : {K Q : Type 0} (g : Lexicon K Q) (laws : Lawful g) (q : Q) (e : Edge) (ks : List K) → Runs g q ks → Spelled g e ks [] → g.last q ≡ true
    at_end_spelled g laws q e [] run s = run
    at_end_spelled g laws q e (l ∷ ks) run ([], [], rest, whole, gap, is, apart, tail) = true_false is (laws.sound.some l)
    at_end_spelled g laws q e (l ∷ ks) run ([], d ∷ token, rest, whole, gap, is, apart, tail) = absurd (cc)
    at_end_spelled g laws q e (l ∷ ks) run (d ∷ more, token, rest, whole, gap, is, apart, tail) = absurd (cc)

pub ended : {K Q : Type 0} (g : Lexicon K Q) (q : Q) (e : Edge) → g.last q ≡ true → From g q e []
ended g q e h = ([], h, no_gap g.blank e)

-- Each place has a completion.
spell : {K Q : Type 0} (g : Lexicon K Q) (laws : Lawful g) (words : (k : K) → (u : List ℕ) × (g.whole k u ≡ true)) (e : Edge) (ks : List K) → (w : List ℕ) × Spelled g e ks w
spell g laws words e [] = ([], no_gap g.blank e)
spell g laws words Free (k ∷ ks) = let more = spell g laws words (g.edge k) ks in ((words k).0 ++ more.0, ([], (words k).0, more.0, refl, refl, (words k).1, inr refl, more.1))
spell g laws words Closed (k ∷ ks) = let more = spell g laws words (g.edge k) ks in ((words k).0 ++ more.0, ([], (words k).0, more.0, refl, refl, (words k).1, inr refl, more.1))
spell g laws words Wordy (k ∷ ks) = let more = spell g laws words (g.edge k) ks in (32 ∷ ((words k).0 ++ more.0), (32 ∷ [], (words k).0, more.0, refl, gap_cons g.blank Wordy 32 [] refl laws.sound.space refl, (words k).1, inl refl, more.1))

pub live : {K Q : Type 0} (g : Lexicon K Q) (laws : Lawful g) (q : Q) (e : Edge) → (w : List ℕ) × From g q e w
live g laws q e = let end = laws.ending q in let s = spell g laws (λ k. laws.sound.grows k [] (laws.sound.silent k)) e end.0 in (s.0, (end.0, end.1, s.1))

-- so has each token begun
pub live_token : {K Q : Type 0} (g : Lexicon K Q) (laws : Lawful g) (q : Q) (e : Edge) (k : K) (r : Q) (p : List ℕ) → InRow (g.row q) k r → fits (g.clings k) e ≡ true → g.begins k p ≡ true
    → (w : List ℕ) × From g q e (p ++ w)
live_token g laws q e k r p inrow fit h = let u = laws.sound.grows k p h in let more = live g laws r (g.edge k) in
    (u.0 ++ more.0, subst (λ v. From g q e v) (append_assoc p u.0 more.0) (take_token g q e (p ++ u.0) more.0 (k, r, inrow, fit, u.1, more.1)))

-- ONE READING

pub spelled_of : {K Q : Type 0} (g : Lexicon K Q) (e : Edge) (ts : List (K × List ℕ)) (bytes : List ℕ) → Reads g e ts bytes → Spelled g e (kinds ts) bytes
spelled_of g e [] bytes s = s
spelled_of g e (t ∷ ts) bytes (gap, rest, cut, is, whole, apart, tail) = (gap, t.1, rest, cut, is, whole, apart, spelled_of g (g.edge t.0) ts rest tail)

-- a token does not begin in a gap
gap_stops : {K Q : Type 0} (g : Lexicon K Q) (laws : Lawful g) (e : Edge) (gap : List ℕ) (k : K) (token rest : List ℕ) → g.whole k token ≡ true → is_gap g.blank e (gap ++ (token ++ rest)) ≡ true → ⊥
gap_stops g laws e [] k [] rest w h = true_false w (laws.sound.some k)
gap_stops g laws e [] k (b ∷ token) rest w h = true_false (gap_blank g.blank e b (token ++ rest) h) (laws.sound.solid k b token (laws.sound.starts k (b ∷ token) w))
gap_stops g laws e (b ∷ gap) k token rest w h = gap_stops g laws Free gap k token rest w (gap_more g.blank e b (gap ++ (token ++ rest)) h)

gap_part : {K Q : Type 0} (g : Lexicon K Q) (laws : Lawful g) (e : Edge) (gap : List ℕ) (c : ℕ) (u : List ℕ) (k : K) (token rest more : List ℕ) → g.whole k token ≡ true
    → is_gap g.blank e (gap ++ (c ∷ u)) ≡ true → token ++ rest ≡ (c ∷ u) ++ more → ⊥
gap_part g laws e [] c u k [] rest more w h is = true_false w (laws.sound.some k)
gap_part g laws e [] c u k (b ∷ token) rest more w h is = true_false (gap_blank g.blank e c u h) (laws.sound.solid k c token (laws.sound.starts k (c ∷ token) (subst (λ v. g.whole k (v ∷ token) ≡ true) (let e1 : b ≡ c = cc in e1) w)))
gap_part g laws e (b ∷ gap) c u k token rest more w h is = gap_part g laws Free gap c u k token rest more w (gap_more g.blank e b (gap ++ (c ∷ u)) h) is

-- the same bytes have the same gap in front of their first token
same_gap : {K Q : Type 0} (g : Lexicon K Q) (laws : Lawful g) (e : Edge) (gap : List ℕ) (k : K) (token rest gap' : List ℕ) (l : K) (token' rest' : List ℕ)
    → is_gap g.blank e gap ≡ true → is_gap g.blank e gap' ≡ true → g.whole k token ≡ true → g.whole l token' ≡ true
    → Cut gap (token ++ rest) gap' (token' ++ rest') → token ++ rest ≡ token' ++ rest'
same_gap g laws e gap k token rest gap' l token' rest' h h' w w' (same is was) = sym was
same_gap g laws e gap k token rest gap' l token' rest' h h' w w' (longer c u is was) =
    absurd (gap_part g laws e gap c u k token rest (token' ++ rest') w (subst (λ v. is_gap g.blank e v ≡ true) is h') was)
same_gap g laws e gap k token rest gap' l token' rest' h h' w w' (shorter c u is was) =
    absurd (gap_part g laws e gap' c u l token' rest' (token ++ rest) w' (subst (λ v. is_gap g.blank e v ≡ true) is h) was)

abbrev Unique : {K Q : Type 0} → Lexicon K Q → List (K × List ℕ) → Type 0
Unique {K} {Q} g ts = (q : Q) (e : Edge) (us : List (K × List ℕ)) (bytes : List ℕ) → Runs g q (kinds ts) → Reads g e ts bytes → Runs g q (kinds us) → Reads g e us bytes → ts ≡ us

same_token : {K Q : Type 0} (g : Lexicon K Q) (laws : Lawful g) (q : Q) (t u : K × List ℕ) (ts us : List (K × List ℕ)) (rest rest' : List ℕ) → Unique g ts
    → (r : Q) → InRow (g.row q) t.0 r → Runs g r (kinds ts) → g.whole t.0 t.1 ≡ true → Reads g (g.edge t.0) ts rest
    → (s : Q) → InRow (g.row q) u.0 s → Runs g s (kinds us) → g.whole u.0 u.1 ≡ true → Reads g (g.edge u.0) us rest'
    → Cut t.1 rest u.1 rest' → t ∷ ts ≡ u ∷ us
same_token g laws q (k, p) (l, p') ts us rest rest' ih r i run w tail s j run' w' tail' (same is was) =
    let o = laws.one q k l r s i j p w (subst (λ v. g.whole l v ≡ true) is w') in
    let more : ts ≡ us = ih s (g.edge l) us rest (subst (λ v. Runs g v (kinds ts)) o.0 run) (subst (λ v. Reads g (g.edge v) ts rest) o.1 tail) run' (subst (Reads g (g.edge l) us) was tail') in
    ap (λ v. (v, p) ∷ ts) o.1 ∙ ap (λ v. (l, v) ∷ ts) (sym is) ∙ ap (λ v. (l, p') ∷ v) more
same_token g laws q (k, p) (l, p') ts us rest rest' ih r i run w tail s j run' w' tail' (longer c u is was) =
    absurd (laws.clash q k l r s i j p c (u ++ rest') w (laws.sound.front l (p ++ (c ∷ [])) u (subst (λ v. g.begins l v ≡ true) (is ∙ sym (append_assoc p (c ∷ []) u)) (laws.sound.starts l p' w'))) (kinds ts, run, subst (Spelled g (g.edge k) (kinds ts)) was (spelled_of g (g.edge k) ts rest tail)))
same_token g laws q (k, p) (l, p') ts us rest rest' ih r i run w tail s j run' w' tail' (shorter c u is was) =
    absurd (laws.clash q l k s r j i p' c (u ++ rest) w' (laws.sound.front k (p' ++ (c ∷ [])) u (subst (λ v. g.begins k v ≡ true) (is ∙ sym (append_assoc p' (c ∷ []) u)) (laws.sound.starts k p w))) (kinds us, run', subst (Spelled g (g.edge l) (kinds us)) was (spelled_of g (g.edge l) us rest' tail')))

-- The bytes have one reading: one list of tokens, each with its kind.
pub one_reading : {K Q : Type 0} (g : Lexicon K Q) (laws : Lawful g) (ts : List (K × List ℕ)) → Unique g ts
one_reading g laws [] q e [] bytes run s run' s' = refl
one_reading g laws [] q e (u ∷ us) bytes run s run' (gap, rest, cut, is, whole, apart, tail) = absurd (gap_stops g laws e gap u.0 u.1 rest whole (subst (λ v. is_gap g.blank e v ≡ true) cut s))
one_reading g laws (t ∷ ts) q e [] bytes run (gap, rest, cut, is, whole, apart, tail) run' s' = absurd (gap_stops g laws e gap t.0 t.1 rest whole (subst (λ v. is_gap g.blank e v ≡ true) cut s'))
one_reading g laws (t ∷ ts) q e (u ∷ us) bytes (r, i, run) (gap, rest, split, is, whole, apart, tail) (s, j, run') (gap', rest', split', is', whole', apart', tail') =
    same_token g laws q t u ts us rest rest' (one_reading g laws ts) r i run whole tail s j run' whole' tail'
    (cut t.1 rest u.1 rest' (same_gap g laws e gap t.0 t.1 rest gap' u.0 u.1 rest' is is' whole whole' (cut gap (t.1 ++ rest) gap' (u.1 ++ rest') (sym split ∙ split'))))

pub reads_of : {K Q : Type 0} (g : Lexicon K Q) (e : Edge) (ks : List K) (bytes : List ℕ) → Spelled g e ks bytes → (ts : List (K × List ℕ)) × (kinds ts ≡ ks) × Reads g e ts bytes
reads_of g e [] bytes s = ([], refl, s)
reads_of g e (k ∷ ks) bytes (gap, token, rest, cut, is, whole, apart, tail) = let o = reads_of g (g.edge k) ks rest tail in
    ((k, token) ∷ o.0, ap (λ v. k ∷ v) o.1, (gap, rest, cut, is, whole, apart, o.2))
