-- What has been read, and what may follow.
use Rattle.std.proofs.Common.{◌≡◌, ℕ, zero, suc, ◌+◌, ◌-◌, ◌≤◌, true, false, List, [], ◌∷◌, ◌++◌, ◌⊎◌, inl, inr, length, ◌<◌, refl, sym, ◌∙◌, ap, subst, arith, take, drop, get_or, Option, Some, None, append_assoc, length-append, length-drop, nat_lt}
use Rattle.std.proofs.lemmas.List.{take-append-drop, length-take-le, take-append-le, append-nil, take_all}
use Rattle.sql_reader.specs.declared.token.Kind.{Kind}
use Rattle.sql_reader.specs.declared.place.Place.{Place}
use Rattle.sql_reader.specs.declared.place.Place.TheVariants as place
use Rattle.sql_reader.specs.declared.token.Edge.{Edge}
use Rattle.sql_reader.specs.declared.token.Edge.TheVariants.{Free, Wordy, Closed}
use Rattle.sql_reader.specs.declared.line.Verdict.TheVariants as verdict
use Rattle.sql_reader.specs.Form.{InRow, fits, From, is_gap, is_open}
use Rattle.sql_reader.specs.Tokens.{whole, begins, clings, edge, is_blank}
use Rattle.sql_reader.specs.Places.{row, ends, lexicon}
use Rattle.sql_reader.specs.Judging.{RunsThrough, IsFront, IsLongestFront, Munched, Judged}
use Rattle.sql_reader.proofs.Form.{true_false, blank_in, blank_out, take_token, munch, barred, live, live_token, at_end, ended, Stops}
use Rattle.std.proofs.Math.Seq.{take-add, drop-drop}
use Rattle.sql_reader.proofs.Steps.{take_next}
use Rattle.sql_reader.proofs.Tokens.{sound, starts}
use Rattle.sql_reader.proofs.Places.{laws, one}

-- w begins as the rest does, or is empty
abbrev pub Agrees : List ℕ → List ℕ → Type 0
Agrees rest w = (w ≡ []) ⊎ ((b : ℕ) × (u : List ℕ) × (v : List ℕ) × (rest ≡ b ∷ u) × (w ≡ b ∷ v))

pub agrees_self : (rest : List ℕ) → Agrees rest rest
agrees_self [] = inl refl
agrees_self (b ∷ u) = inr (b, u, u, refl, refl)

-- what makes a line of what is done is what may follow the place
pub record Stands (done rest : List ℕ) (q : Place) (e : Edge) : Type 0 where
  pub fwd : (w : List ℕ) → From lexicon q e w → RunsThrough (done ++ w)
  pub bwd : (w : List ℕ) → Agrees rest w → RunsThrough (done ++ w) → From lexicon q e w

pub begun : (bytes : List ℕ) → Stands [] bytes place.LineStart Free
begun bytes = record { fwd = λ w f. f; bwd = λ w a f. f }

pub gap_byte : (e : Edge) (b : ℕ) → is_gap is_blank e (b ∷ []) ≡ true → (is_open e ≡ true) × (is_blank b ≡ true)
gap_byte Free b h = (refl, grind arith)
gap_byte Wordy b h = (refl, grind arith)
gap_byte Closed b h = true_false h refl

pub past_blank : (done rest : List ℕ) (q : Place) (e : Edge) (b : ℕ) → is_gap is_blank e (b ∷ []) ≡ true → Stands done (b ∷ rest) q e → Stands (done ++ (b ∷ [])) rest q Free
past_blank done rest q e b h s = let g = gap_byte e b h in record {
  fwd = λ w f. subst RunsThrough (sym (append_assoc done (b ∷ []) w)) (s.fwd (b ∷ w) (blank_out lexicon q e b w g.0 g.1 f));
  bwd = λ w a f. blank_in lexicon laws q e b w g.1 (s.bwd (b ∷ w) (inr (b, rest, w, refl, refl)) (subst RunsThrough (append_assoc done (b ∷ []) w) f));
}

-- no token of the place goes on into the rest
abbrev pub Ends : Place → Edge → List ℕ → List ℕ → Type 0
Ends q e p rest = Stops lexicon q e p rest

ends_agrees : (q : Place) (e : Edge) (p rest w : List ℕ) → Ends q e p rest → Agrees rest w → Ends q e p w
ends_agrees q e p rest w h (inl empty) = λ k r i f d x eq. absurd (cc)
ends_agrees q e p rest w h (inr (b, u, v, is, was)) = λ k r i f d x eq. h k r i f d u (is ∙ ap (λ n. n ∷ u) (let e1 : b ≡ d = cc in e1))

from_to : (q r s : Place) (k l : Kind) (w : List ℕ) → (r ≡ s) × (k ≡ l) → From lexicon r (edge k) w → From lexicon s (edge l) w
from_to q r s k l w (a, b) f = subst (λ v. From lexicon v (edge l) w) a (subst (λ v. From lexicon r (edge v) w) b f)

pub past_token : (done rest : List ℕ) (q : Place) (e : Edge) (c : ℕ) (p : List ℕ) (k : Kind) (r : Place) → is_gap is_blank e (c ∷ []) ≡ false
    → InRow (row q) k r → fits (clings k) e ≡ true → whole k (c ∷ p) ≡ true → Ends q e (c ∷ p) rest
    → Stands done ((c ∷ p) ++ rest) q e → Stands (done ++ (c ∷ p)) rest r (edge k)
past_token done rest q e c p k r solid i fit is end s = record {
  fwd = λ w f. subst RunsThrough (sym (append_assoc done (c ∷ p) w)) (s.fwd ((c ∷ p) ++ w) (take_token lexicon q e (c ∷ p) w (k, r, i, fit, is, f)));
  bwd = λ w a f. let t = munch lexicon laws q e c p w solid k r i (starts k (c ∷ p) is) (ends_agrees q e (c ∷ p) rest w end a)
      (s.bwd ((c ∷ p) ++ w) (inr (c, p ++ rest, p ++ w, refl, refl)) (subst RunsThrough (append_assoc done (c ∷ p) w) f))
      in from_to q t.1 r t.0 k w (one q t.0 k t.1 r t.2 i (c ∷ p) t.4 is) t.5;
}

-- some token begins so
abbrev pub Begun : Place → Edge → List ℕ → Type 0
Begun q e p = (k : Kind) × (r : Place) × InRow (row q) k r × (fits (clings k) e ≡ true) × (begins k p ≡ true)

-- none is one
abbrev pub NoToken : Place → Edge → List ℕ → Type 0
NoToken q e p = (k : Kind) (r : Place) → InRow (row q) k r → fits (clings k) e ≡ true → whole k p ≡ false

pub barrier : (done rest : List ℕ) (q : Place) (e : Edge) (c : ℕ) (p : List ℕ) → is_gap is_blank e (c ∷ []) ≡ false
    → Begun q e (c ∷ p) → NoToken q e (c ∷ p) → Ends q e (c ∷ p) rest → Stands done ((c ∷ p) ++ rest) q e
    → (w : List ℕ) → Agrees rest w → RunsThrough (done ++ ((c ∷ p) ++ w)) → ⊥
barrier done rest q e c p solid b none end s w a f =
    let t = munch lexicon laws q e c p w solid b.0 b.1 b.2 b.4 (ends_agrees q e (c ∷ p) rest w end a) (s.bwd ((c ∷ p) ++ w) (inr (c, p ++ rest, p ++ w, refl, refl)) f)
    in true_false t.4 (none t.0 t.1 t.2 t.3)

pub barrier_first : (done rest : List ℕ) (q : Place) (e : Edge) (c : ℕ) → is_gap is_blank e (c ∷ []) ≡ false → Ends q e [] (c ∷ rest) → Stands done (c ∷ rest) q e
    → (w : List ℕ) → RunsThrough (done ++ (c ∷ w)) → ⊥
barrier_first done rest q e c solid end s w f = barred lexicon sound q e c w solid (ends_agrees q e [] (c ∷ rest) (c ∷ w) end (inr (c, rest, w, refl, refl))) (s.bwd (c ∷ w) (inr (c, rest, w, refl, refl)) f)

-- nothing makes a lexicon of the front and a byte more
abbrev pub Wall : List ℕ → List ℕ → Type 0
Wall front rest = (w : List ℕ) → Agrees rest w → (w ≡ [] → rest ≡ []) → RunsThrough (front ++ w) → ⊥

-- in the terms of the whole
take_more : (front rest : List ℕ) (m : ℕ) → length front ≤ m → take m (front ++ rest) ≡ front ++ take (m - length front) rest
take_more [] rest m h = ap (λ n. take n rest) (let e : m ≡ m - 0 = omega arith in e)
take_more (b ∷ front) rest zero h = absurd (omega (arith, h))
take_more (b ∷ front) rest (suc m) h = ap (λ v. b ∷ v) (take_more front rest m (omega (arith, h)) ∙ ap (λ n. front ++ take n rest) (let e : m - length front ≡ suc m - length (b ∷ front) = omega arith in e))

agrees_take : (rest u : List ℕ) (j : ℕ) → 0 < j → Agrees rest (take j rest ++ u) ⊎ (rest ≡ [])
agrees_take [] u j h = inr refl
agrees_take (b ∷ rest) u zero h = absurd (omega (arith, h))
agrees_take (b ∷ rest) u (suc j) h = inl (inr (b, rest, take j rest ++ u, refl, refl))

not_empty_take : (rest u : List ℕ) (j : ℕ) → 0 < j → (take j rest ++ u ≡ []) → rest ≡ []
not_empty_take [] u j h e = refl
not_empty_take (b ∷ rest) u zero h e = absurd (omega (arith, h))
not_empty_take (b ∷ rest) u (suc j) h e = absurd (cc)

pub longest : (front rest : List ℕ) → (more : List ℕ) × RunsThrough (front ++ more) → Wall front rest → (RunsThrough (front ++ rest) → ⊥) × IsLongestFront (front ++ rest) (length front)
longest front rest live wall = (wall rest (agrees_self rest) (λ e. e), ((omega (arith, length-append front rest), live.0, subst (λ v. RunsThrough (v ++ live.0)) (sym (take-append-le (length front) front rest (omega arith) ∙ take_all (length front) front (omega arith))) live.1), below))
  where
    beyond : (m : ℕ) → length front < m → m ≤ length (front ++ rest) → (u : List ℕ) → RunsThrough (take m (front ++ rest) ++ u) → ⊥
    beyond m g b u f = elim (agrees_take rest u (m - length front) (omega (arith, g))) [
      | inl a ↦ wall (take (m - length front) rest ++ u) a (not_empty_take rest u (m - length front) (omega (arith, g))) (subst RunsThrough (ap (λ v. v ++ u) (take_more front rest m (omega (arith, g))) ∙ append_assoc front (take (m - length front) rest) u) f)
      | inr e ↦ omega (arith, g, b, length-append front rest, ap length e)
    ]

    below : (m : ℕ) → IsFront (front ++ rest) m → m ≤ length front
    below m f = elim (nat_lt (length front) m) as (λ t. nat_lt (length front) m ≡ t → m ≤ length front) [
      | true ↦ λ e. absurd (beyond m (grind arith) f.0 f.1 f.2)
      | false ↦ λ e. grind arith
    ] refl

-- WHAT THE LOOP NEEDS

pub drop_next : (at : ℕ) (xs : List ℕ) → at < length xs → drop at xs ≡ get_or xs at 0 ∷ drop (at + 1) xs
drop_next at [] h = absurd (omega (arith, h))
drop_next zero (x ∷ xs) h = refl
drop_next (suc at) (x ∷ xs) h = drop_next at xs (omega (arith, h)) ∙ ap (λ n. get_or xs at 0 ∷ drop n (x ∷ xs)) (let e : suc (at + 1) ≡ suc at + 1 = omega arith in e)

take_seen : (n : ℕ) (xs : List ℕ) (d : ℕ) (x : List ℕ) → drop n xs ≡ d ∷ x → (n < length xs) × (take (n + 1) xs ≡ take n xs ++ (d ∷ []))
take_seen n xs d x e = let h : n < length xs = omega (arith, ap length e, length-drop n xs) in
    (h, take_next n xs h ∙ ap (λ v. take n xs ++ (v ∷ [])) (let same : get_or xs n 0 ≡ d = sym (ap (λ v. get_or v 0 0) (drop_next n xs h)) ∙ ap (λ v. get_or v 0 0) e in same))

pub ends_of : (q : Place) (e : Edge) (rest : List ℕ) (n : ℕ) (token : Option (Kind × Place)) → Munched (row q) e rest n token → Ends q e (take n rest) (drop n rest)
ends_of q e rest n token m = λ k r i f d x eq. let s = take_seen n rest d x eq in ap (begins k) (sym s.1) ∙ m.longest k r i f s.0

cut_rest : (c : ℕ) (rest : List ℕ) (m : ℕ) → c ∷ rest ≡ (c ∷ take m rest) ++ drop m rest
cut_rest c rest m = ap (λ v. c ∷ v) (sym (take-append-drop m rest))

token_list : (done : List ℕ) (c : ℕ) (rest : List ℕ) (q : Place) (e : Edge) (n : ℕ) (k : Kind) (r : Place) → is_gap is_blank e (c ∷ []) ≡ false
    → Munched (row q) e (c ∷ rest) n (Some (k, r)) → Stands done (c ∷ rest) q e → (0 < n) × Stands (done ++ take n (c ∷ rest)) (drop n (c ∷ rest)) r (edge k)
token_list done c rest q e zero k r solid m s = true_false (m.found).2 (sound.some k)
token_list done c rest q e (suc n) k r solid m s = (omega arith, past_token done (drop n rest) q e c (take n rest) k r solid (m.found).0 (m.found).1 (m.found).2 (ends_of q e (c ∷ rest) (suc n) _ m) (subst (λ v. Stands done v q e) (cut_rest c rest n) s))

live_front : (done rest : List ℕ) (q : Place) (e : Edge) → Stands done rest q e → (more : List ℕ) × RunsThrough (done ++ more)
live_front done rest q e s = let w = live lexicon laws q e in (w.0, s.fwd w.0 w.1)

live_part : (done rest : List ℕ) (q : Place) (e : Edge) (p : List ℕ) → Begun q e p → Stands done rest q e → (more : List ℕ) × RunsThrough ((done ++ p) ++ more)
live_part done rest q e p b s = let w = live_token lexicon laws q e b.0 b.1 p b.2 b.3 b.4 in (w.0, subst RunsThrough (sym (append_assoc done p w.0)) (s.fwd (p ++ w.0) w.1))

wall_first : (done : List ℕ) (c : ℕ) (rest : List ℕ) (q : Place) (e : Edge) → is_gap is_blank e (c ∷ []) ≡ false → Ends q e [] (c ∷ rest) → Stands done (c ∷ rest) q e → Wall done (c ∷ rest)
wall_first done c rest q e solid end s w (inl none) some f = absurd (let h : c ∷ rest ≡ [] = some none in cc)
wall_first done c rest q e solid end s w (inr (b, u, v, is, was)) some f = barrier_first done rest q e c solid end s v (subst (λ x. RunsThrough (done ++ x)) (let e1 : w ≡ c ∷ v = cc in e1) f)

wall_part : (done rest : List ℕ) (q : Place) (e : Edge) (c : ℕ) (p : List ℕ) → is_gap is_blank e (c ∷ []) ≡ false
    → Begun q e (c ∷ p) → NoToken q e (c ∷ p) → Ends q e (c ∷ p) rest → Stands done ((c ∷ p) ++ rest) q e → Wall (done ++ (c ∷ p)) rest
wall_part done rest q e c p solid b none end s w a some f = barrier done rest q e c p solid b none end s w a (subst RunsThrough (append_assoc done (c ∷ p) w) f)

dead_list : (done : List ℕ) (c : ℕ) (rest : List ℕ) (q : Place) (e : Edge) (n : ℕ) → is_gap is_blank e (c ∷ []) ≡ false
    → Munched (row q) e (c ∷ rest) n None → Stands done (c ∷ rest) q e → Judged (done ++ (c ∷ rest)) (verdict.Bad (length done + n))
dead_list done c rest q e zero solid m s = subst (λ n. Judged (done ++ (c ∷ rest)) (verdict.Bad n)) (let e1 : length done ≡ length done + 0 = omega arith in e1)
    (longest done (c ∷ rest) (live_front done (c ∷ rest) q e s) (wall_first done c rest q e solid (ends_of q e (c ∷ rest) 0 _ m) s))
dead_list done c rest q e (suc n) solid m s =
    let b : Begun q e (c ∷ take n rest) = m.reached (omega arith) in
    let t : Stands done ((c ∷ take n rest) ++ drop n rest) q e = subst (λ v. Stands done v q e) (cut_rest c rest n) s in
    let front : List ℕ = done ++ (c ∷ take n rest) in
    let whole_is : front ++ drop n rest ≡ done ++ (c ∷ rest) = append_assoc done (c ∷ take n rest) (drop n rest) ∙ ap (λ v. done ++ v) (sym (cut_rest c rest n)) in
    let size : length front ≡ length done + suc n = length-append done (c ∷ take n rest) ∙ ap (λ k. length done + k) (length-take-le (suc n) (c ∷ rest) m.within) in
    subst (λ v. Judged v (verdict.Bad (length done + suc n))) whole_is (subst (λ k. Judged (front ++ drop n rest) (verdict.Bad k)) size
    (longest front (drop n rest) (live_part done (c ∷ rest) q e (c ∷ take n rest) b s) (wall_part done (drop n rest) q e c (take n rest) solid b (λ k r i f. m.none k r i f) (ends_of q e (c ∷ rest) (suc n) _ m) t)))

-- by indices
pub blank_step : (bytes : List ℕ) (at : ℕ) (q : Place) (e : Edge) → at < length bytes → is_gap is_blank e (get_or bytes at 0 ∷ []) ≡ true
    → Stands (take at bytes) (drop at bytes) q e → Stands (take (at + 1) bytes) (drop (at + 1) bytes) q Free
blank_step bytes at q e h g s = subst (λ v. Stands v (drop (at + 1) bytes) q Free) (sym (take_next at bytes h)) (past_blank (take at bytes) (drop (at + 1) bytes) q e (get_or bytes at 0) g (subst (λ v. Stands (take at bytes) v q e) (drop_next at bytes h) s))

pub token_step : (bytes : List ℕ) (at : ℕ) (q : Place) (e : Edge) (n : ℕ) (k : Kind) (r : Place) → at < length bytes → is_gap is_blank e (get_or bytes at 0 ∷ []) ≡ false
    → Munched (row q) e (drop at bytes) n (Some (k, r)) → Stands (take at bytes) (drop at bytes) q e → (0 < n) × Stands (take (at + n) bytes) (drop (at + n) bytes) r (edge k)
token_step bytes at q e n k r h g m s =
    let t = token_list (take at bytes) (get_or bytes at 0) (drop (at + 1) bytes) q e n k r g (subst (λ v. Munched (row q) e v n (Some (k, r))) (drop_next at bytes h) m) (subst (λ v. Stands (take at bytes) v q e) (drop_next at bytes h) s) in
    (t.0, subst (λ v. Stands v (drop (at + n) bytes) r (edge k)) (sym (take-add at n bytes)) (subst (λ v. Stands (take at bytes ++ take n (drop at bytes)) v r (edge k)) (drop-drop n at bytes) (subst (λ v. Stands (take at bytes ++ take n v) (drop n v) r (edge k)) (sym (drop_next at bytes h)) t.1)))

pub dead_step : (bytes : List ℕ) (at : ℕ) (q : Place) (e : Edge) (n : ℕ) → at < length bytes → is_gap is_blank e (get_or bytes at 0 ∷ []) ≡ false
    → Munched (row q) e (drop at bytes) n None → Stands (take at bytes) (drop at bytes) q e → Judged bytes (verdict.Bad (at + n))
dead_step bytes at q e n h g m s =
    let d = dead_list (take at bytes) (get_or bytes at 0) (drop (at + 1) bytes) q e n g (subst (λ v. Munched (row q) e v n None) (drop_next at bytes h) m) (subst (λ v. Stands (take at bytes) v q e) (drop_next at bytes h) s) in
    subst (λ k. Judged bytes (verdict.Bad (k + n))) (length-take-le at bytes (omega (arith, h))) (subst (λ v. Judged v (verdict.Bad (length (take at bytes) + n))) (ap (λ v. take at bytes ++ v) (sym (drop_next at bytes h)) ∙ take-append-drop at bytes) d)

pub good_end : (bytes : List ℕ) (at : ℕ) (q : Place) (e : Edge) → length bytes ≤ at → ends q ≡ true → Stands (take at bytes) (drop at bytes) q e → RunsThrough bytes
good_end bytes at q e h l s = subst RunsThrough (append-nil (take at bytes) ∙ take_all at bytes h) (s.fwd [] (ended lexicon q e l))

pub bad_end : (bytes : List ℕ) (at : ℕ) (q : Place) (e : Edge) → length bytes ≤ at → at ≤ length bytes → ends q ≡ false → Stands (take at bytes) (drop at bytes) q e → Judged bytes (verdict.Bad at)
bad_end bytes at q e h g l s =
    let all : take at bytes ≡ bytes = take_all at bytes h in
    let live : (more : List ℕ) × RunsThrough (take at bytes ++ more) = live_front (take at bytes) (drop at bytes) q e s in
    ((λ f. true_false (at_end lexicon laws q e (s.bwd [] (inl refl) (subst RunsThrough (sym (append-nil (take at bytes) ∙ all)) f))) l), ((g, live.0, live.1), λ m f. omega (arith, f.0, h)))

pub all_of : (at : ℕ) (bytes : List ℕ) → take (length bytes - at) (drop at bytes) ≡ drop at bytes
all_of at bytes = take_all (length bytes - at) (drop at bytes) (omega (arith, length-drop at bytes))

pub token_by : (bytes : List ℕ) (at : ℕ) (q : Place) (e : Edge) (rows : List (Kind × Place)) (n : ℕ) (token : Option (Kind × Place)) (k : Kind) (r : Place) → at < length bytes → is_gap is_blank e (get_or bytes at 0 ∷ []) ≡ false
    → rows ≡ row q → Munched rows e (take (length bytes - at) (drop at bytes)) n token → token ≡ Some (k, r) → Stands (take at bytes) (drop at bytes) q e → (0 < n) × Stands (take (at + n) bytes) (drop (at + n) bytes) r (edge k)
token_by bytes at q e rows n token k r h g is m t s = token_step bytes at q e n k r h g (subst (λ v. Munched (row q) e (drop at bytes) n v) t (subst (λ v. Munched v e (drop at bytes) n token) is (subst (λ v. Munched rows e v n token) (all_of at bytes) m))) s

pub dead_by : (bytes : List ℕ) (at : ℕ) (q : Place) (e : Edge) (rows : List (Kind × Place)) (n : ℕ) (token : Option (Kind × Place)) → at < length bytes → is_gap is_blank e (get_or bytes at 0 ∷ []) ≡ false
    → rows ≡ row q → Munched rows e (take (length bytes - at) (drop at bytes)) n token → token ≡ None → Stands (take at bytes) (drop at bytes) q e → Judged bytes (verdict.Bad (at + n))
dead_by bytes at q e rows n token h g is m t s = dead_step bytes at q e n h g (subst (λ v. Munched (row q) e (drop at bytes) n v) t (subst (λ v. Munched v e (drop at bytes) n token) is (subst (λ v. Munched rows e v n token) (all_of at bytes) m))) s
