-- The next token of what is left.
use Rattle.std.proofs.Common.{◌≡◌, ℕ, zero, suc, ◌+◌, ◌-◌, ◌≤◌, ◌<◌, Bool, true, false, List, [], ◌∷◌, ◌++◌, ◌⊎◌, inl, inr, length, refl, sym, ◌∙◌, ap, subst, arith, take, drop, get_or, length-drop, Option, Some, None}
use Rattle.std.specs.List.{list_all}
use Rattle.std.proofs.lemmas.List.Folds.{list_all-append}
use Rattle.std.proofs.lemmas.List.{take-append-drop}
use Rattle.std.proofs.Math.Seq.{drop-drop}
use Rattle.sql_reader.specs.declared.token.Edge.{Edge}
use Rattle.sql_reader.specs.declared.token.Edge.TheVariants.{Free, Wordy, Closed}
use Rattle.sql_reader.specs.declared.token.Kind.{Kind}
use Rattle.sql_reader.specs.declared.place.Place.{Place}
use Rattle.sql_reader.specs.Form.{InRow, From, is_gap, is_empty, fits}
use Rattle.sql_reader.specs.Tokens.{whole, clings, edge, is_blank}
use Rattle.sql_reader.specs.Places.{row, ends, lexicon}
use Rattle.sql_reader.specs.Judging.{Munched}
use Rattle.sql_reader.specs.Gaps.{edge_past, IsGapLength}
use Rattle.sql_reader.specs.Reading.{Next}
use Rattle.sql_reader.proofs.Form.{true_false, blank_in, munch, barred, at_end, Takes}
use Rattle.sql_reader.proofs.Tokens.{left, right, both, sound}
use Rattle.sql_reader.proofs.Places.{laws, one}
use Rattle.sql_reader.proofs.Steps.{take_next}
use Rattle.sql_reader.proofs.Stands.{drop_next, all_of, ends_of}

-- a byte of a gap
abbrev pub gap_test : Edge → ℕ → Bool
gap_test e b = is_gap is_blank e (b ∷ [])

pub gap_grows : (e : Edge) (bytes : List ℕ) (n : ℕ) → n < length bytes → list_all (gap_test e) (take n bytes) ≡ true → gap_test e (get_or bytes n 0) ≡ true → list_all (gap_test e) (take (n + 1) bytes) ≡ true
gap_grows e bytes n a h b = ap (list_all (gap_test e)) (take_next n bytes a) ∙ list_all-append (gap_test e) (take n bytes) (get_or bytes n 0 ∷ []) ∙ both h (both b refl)

gap_of : (e : Edge) (gap : List ℕ) → list_all (gap_test e) gap ≡ true → is_gap is_blank e gap ≡ true
gap_of Free [] h = refl
gap_of Free (b ∷ gap) h = both (left _ _ (left _ _ h)) (gap_of Free gap (right _ _ h))
gap_of Wordy [] h = refl
gap_of Wordy (b ∷ gap) h = both (left _ _ (left _ _ h)) (gap_of Wordy gap (right _ _ h))
gap_of Closed [] h = refl
gap_of Closed (b ∷ gap) h = true_false (left (gap_test Closed b) (list_all (gap_test Closed) gap) h) refl

stops_past : (e : Edge) (n b : ℕ) (bytes : List ℕ) → list_all (gap_test e) (take n bytes) ≡ true → n ≤ length bytes → gap_test e b ≡ false → gap_test (edge_past n e) b ≡ false
stops_past e zero b bytes h a f = f
stops_past Free (suc n) b bytes h a f = f
stops_past Wordy (suc n) b bytes h a f = f
stops_past Closed (suc n) b [] h a f = absurd (omega (arith, a))
stops_past Closed (suc n) b (c ∷ bytes) h a f = true_false (left (gap_test Closed c) (list_all (gap_test Closed) (take n bytes)) h) refl

pub gap_length : (e : Edge) (bytes : List ℕ) (n : ℕ) → n ≤ length bytes → list_all (gap_test e) (take n bytes) ≡ true → (n < length bytes → gap_test e (get_or bytes n 0) ≡ false) → IsGapLength e bytes n
gap_length e bytes n a h s = record { within = a; gap = gap_of e (take n bytes) h; stops = λ i. stops_past e n (get_or bytes n 0) bytes h a (s i) }

-- what is left behind a gap
abbrev past : Edge → List ℕ → Edge
past e [] = e
past e (b ∷ gap) = Free

gap_in : (e : Edge) (b : ℕ) (gap : List ℕ) → is_gap is_blank e (b ∷ gap) ≡ true → (is_blank b ≡ true) × (is_gap is_blank Free gap ≡ true)
gap_in Free b gap h = (left _ _ h, right _ _ h)
gap_in Wordy b gap h = (left _ _ h, right _ _ h)
gap_in Closed b gap h = true_false h refl

from_free : (q : Place) (gap w : List ℕ) → is_gap is_blank Free gap ≡ true → From lexicon q Free (gap ++ w) → From lexicon q Free w
from_free q [] w h f = f
from_free q (b ∷ gap) w h f = let g = gap_in Free b gap h in from_free q gap w g.1 (blank_in lexicon laws q Free b (gap ++ w) g.0 f)

from_past : (q : Place) (e : Edge) (gap w : List ℕ) → is_gap is_blank e gap ≡ true → From lexicon q e (gap ++ w) → From lexicon q (past e gap) w
from_past q e [] w h f = f
from_past q e (b ∷ gap) w h f = let g = gap_in e b gap h in from_free q gap w g.1 (blank_in lexicon laws q e b (gap ++ w) g.0 f)

past_is : (e : Edge) (n : ℕ) (bytes : List ℕ) → n ≤ length bytes → past e (take n bytes) ≡ edge_past n e
past_is e zero bytes h = refl
past_is e (suc n) [] h = absurd (omega (arith, h))
past_is e (suc n) (b ∷ bytes) h = refl

-- the token at the front of what is left
abbrev Front : Place → Edge → List ℕ → ℕ → Kind → Place → Type 0
Front q e rest n k r = (0 < n) × InRow (row q) k r × (fits (clings k) e ≡ true) × (whole k (take n rest) ≡ true) × From lexicon r (edge k) (drop n rest)

abbrev IsFound : Place → Edge → List ℕ → ℕ → Option (Kind × Place) → Type 0
IsFound q e rest n token = (k : Kind) × (r : Place) × (token ≡ Some (k, r)) × Front q e rest n k r

take_cut : (c : ℕ) (w : List ℕ) (n : ℕ) → c ∷ w ≡ (c ∷ take n w) ++ drop n w
take_cut c w n = ap (λ v. c ∷ v) (sym (take-append-drop n w))

taken : (q : Place) (e : Edge) (c : ℕ) (w : List ℕ) (n : ℕ) (token : Option (Kind × Place)) → Munched (row q) e (c ∷ w) (suc n) token → gap_test e c ≡ false → From lexicon q e (c ∷ w) → Takes lexicon q e (c ∷ take n w) (drop n w)
taken q e c w n token m solid f =
    let r = m.reached (omega arith) in
    munch lexicon laws q e c (take n w) (drop n w) solid r.0 r.1 r.2 r.4 (ends_of q e (c ∷ w) (suc n) token m) (subst (From lexicon q e) (take_cut c w n) f)

found_some : (q : Place) (e : Edge) (c : ℕ) (w : List ℕ) (n : ℕ) (token : Option (Kind × Place)) → Munched (row q) e (c ∷ w) (suc n) token → Takes lexicon q e (c ∷ take n w) (drop n w) → IsFound q e (c ∷ w) (suc n) token
found_some q e c w n None m t = true_false t.4 (m.none t.0 t.1 t.2 t.3)
found_some q e c w n (Some (k, r)) m t =
    let o = one q t.0 k t.1 r t.2 (m.found).0 (c ∷ take n w) t.4 (m.found).2 in
    (k, r, refl, (omega arith, (m.found).0, (m.found).1, (m.found).2, subst (λ v. From lexicon v (edge k) (drop n w)) o.0 (subst (λ v. From lexicon t.1 (edge v) (drop n w)) o.1 t.5)))

found_in : (q : Place) (e : Edge) (rest : List ℕ) (n : ℕ) (token : Option (Kind × Place)) → ends q ≡ false → Munched (row q) e rest n token → (0 < length rest → gap_test e (get_or rest 0 0) ≡ false) → From lexicon q e rest → IsFound q e rest n token
found_in q e [] n token more m solid f = true_false (at_end lexicon laws q e f) more
found_in q e (c ∷ w) zero token more m solid f = absurd (barred lexicon sound q e c w (solid (omega arith)) (ends_of q e (c ∷ w) zero token m) f)
found_in q e (c ∷ w) (suc n) token more m solid f = found_some q e c w n token m (taken q e c w n token m (solid (omega arith)) f)

-- in terms of the whole
stands_apart : (e : Edge) (gap : List ℕ) (k : Kind) → fits (clings k) (past e gap) ≡ true → (is_empty gap ≡ false) ⊎ (fits (clings k) e ≡ true)
stands_apart e [] k h = inr h
stands_apart e (b ∷ gap) k h = inl refl

first_of_drop : (bytes : List ℕ) (n : ℕ) → 0 < length (drop n bytes) → n < length bytes
first_of_drop bytes n h = omega (arith, h, length-drop n bytes)

get_drop : (bytes : List ℕ) (n : ℕ) → n < length bytes → get_or (drop n bytes) 0 0 ≡ get_or bytes n 0
get_drop bytes n h = ap (λ v. get_or v 0 0) (drop_next n bytes h)

solid_by : (e : Edge) (bytes : List ℕ) (g : ℕ) → IsGapLength e bytes g → 0 < length (drop g bytes) → gap_test (edge_past g e) (get_or (drop g bytes) 0 0) ≡ false
solid_by e bytes g l i = ap (gap_test (edge_past g e)) (get_drop bytes g (first_of_drop bytes g i)) ∙ l.stops (first_of_drop bytes g i)

pub found_at : (q : Place) (e : Edge) (bytes : List ℕ) (g n : ℕ) (token : Option (Kind × Place)) → ends q ≡ false → From lexicon q e bytes → IsGapLength e bytes g → Munched (row q) (edge_past g e) (drop g bytes) n token → IsFound q (edge_past g e) (drop g bytes) n token
found_at q e bytes g n token more f l m = found_in q (edge_past g e) (drop g bytes) n token more m (solid_by e bytes g l)
    (subst (λ v. From lexicon q v (drop g bytes)) (past_is e g bytes l.within) (from_past q e (take g bytes) (drop g bytes) l.gap (subst (From lexicon q e) (sym (take-append-drop g bytes)) f)))

cut_bytes : (bytes : List ℕ) (g n : ℕ) → bytes ≡ take g bytes ++ (take n (drop g bytes) ++ drop (g + n) bytes)
cut_bytes bytes g n = sym (ap (λ v. take g bytes ++ v) (ap (λ v. take n (drop g bytes) ++ v) (sym (drop-drop n g bytes)) ∙ take-append-drop n (drop g bytes)) ∙ take-append-drop g bytes)

pub next_of : (q : Place) (e : Edge) (bytes : List ℕ) (g n : ℕ) (k : Kind) (r : Place) → IsGapLength e bytes g → n ≤ length (drop g bytes) → Front q (edge_past g e) (drop g bytes) n k r → Next q e bytes g n k r
next_of q e bytes g n k r l a f = record {
  within = omega (arith, a, length-drop g bytes, l.within);
  some = f.0;
  stands = f.1;
  is = f.3;
  step = λ ts t. (take g bytes, drop (g + n) bytes, cut_bytes bytes g n, l.gap, f.3, stands_apart e (take g bytes) k (subst (λ v. fits (clings k) v ≡ true) (sym (past_is e g bytes l.within)) f.2), t);
  goes = subst (From lexicon r (edge k)) (drop-drop n g bytes) f.4;
}

-- by what the readers return
pub munched_here : (q : Place) (e : Edge) (rows : List (Kind × Place)) (bytes : List ℕ) (g n : ℕ) (token : Option (Kind × Place)) → rows ≡ row q → Munched rows e (take (length bytes - g) (drop g bytes)) n token → Munched (row q) e (drop g bytes) n token
munched_here q e rows bytes g n token is m = subst (λ v. Munched v e (drop g bytes) n token) is (subst (λ v. Munched rows e v n token) (all_of g bytes) m)

some_pair : (x y : Kind × Place) → Some x ≡ Some y → x ≡ y
some_pair x y e = cc

same_found : (q : Place) (e : Edge) (rest : List ℕ) (n : ℕ) (token : Option (Kind × Place)) (k : Kind) (r : Place) → token ≡ Some (k, r) → IsFound q e rest n token → Front q e rest n k r
same_found q e rest n token k r is (l, s, was, f) =
    let pair : (l, s) ≡ (k, r) = some_pair (l, s) (k, r) (sym was ∙ is) in
    let a : l ≡ k = ap (λ v. v.0) pair in let b : s ≡ r = ap (λ v. v.1) pair in
    subst (λ v. Front q e rest n v r) a (subst (λ v. Front q e rest n l v) b f)

pub next_by : (q : Place) (e : Edge) (bytes : List ℕ) (g n : ℕ) (token : Option (Kind × Place)) (k : Kind) (r : Place) → ends q ≡ false → From lexicon q e bytes → IsGapLength e bytes g → Munched (row q) (edge_past g e) (drop g bytes) n token → token ≡ Some (k, r) → Next q e bytes g n k r
next_by q e bytes g n token k r more f l m is = next_of q e bytes g n k r l m.within (same_found q (edge_past g e) (drop g bytes) n token k r is (found_at q e bytes g n token more f l m))

pub never_none : (q : Place) (e : Edge) (bytes : List ℕ) (g n : ℕ) (token : Option (Kind × Place)) → ends q ≡ false → From lexicon q e bytes → IsGapLength e bytes g → Munched (row q) (edge_past g e) (drop g bytes) n token → token ≡ None → ⊥
never_none q e bytes g n token more f l m is = none_some (found_at q e bytes g n token more f l m) is
  where
    none_some : IsFound q (edge_past g e) (drop g bytes) n token → token ≡ None → ⊥
    none_some (k, r, was, rest) is = absurd (cc)

pub edge_zero : (n : ℕ) (e b : Edge) → n ≡ 0 → b ≡ e → b ≡ edge_past n e
edge_zero zero e b h is = is
edge_zero (suc n) e b h is = absurd (omega (arith, h))

pub edge_some : (n : ℕ) (e b : Edge) → (n ≡ 0 → ⊥) → b ≡ Free → b ≡ edge_past n e
edge_some zero e b h is = absurd (h refl)
edge_some (suc n) e b h is = is

pub munched_by : (q : Place) (e b : Edge) (rows : List (Kind × Place)) (bytes : List ℕ) (g n : ℕ) (token : Option (Kind × Place)) → b ≡ edge_past g e → rows ≡ row q → Munched rows b (take (length bytes - g) (drop g bytes)) n token → Munched (row q) (edge_past g e) (drop g bytes) n token
munched_by q e b rows bytes g n token is rows_are m = munched_here q (edge_past g e) rows bytes g n token rows_are (subst (λ v. Munched rows v (take (length bytes - g) (drop g bytes)) n token) is m)
