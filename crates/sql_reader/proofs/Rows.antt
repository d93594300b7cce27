-- The longest token of a place's row.
use Rattle.std.proofs.Common.{◌≡◌, ℕ, ◌+◌, ◌≤◌, Bool, true, false, List, [], ◌∷◌, ◌++◌, ◌⊎◌, inl, inr, length, ◌<◌, refl, sym, ◌∙◌, ap, subst, arith, take, drop, nat_le, length-drop, Option, Some, None}
use Rattle.std.proofs.lemmas.List.{take-append-drop, length-take-le, take-append-le, append-nil, nil_from_length}
use Rattle.std.proofs.lemmas.Bool.{false_from_ne_true}
use Rattle.sql_reader.specs.declared.token.Kind.{Kind}
use Rattle.sql_reader.specs.declared.place.Place.{Place}
use Rattle.sql_reader.specs.declared.token.Edge.{Edge}
use Rattle.sql_reader.specs.Form.{fits}
use Rattle.sql_reader.specs.Tokens.{whole, begins, clings}
use Rattle.sql_reader.specs.Judging.{Reached, Munched}
use Rattle.sql_reader.proofs.Form.{true_false}
use Rattle.sql_reader.proofs.Tokens.{front, starts}

take_again : (i j : ℕ) (xs : List ℕ) → i ≤ j → take i (take j xs) ≡ take i xs
take_again i j xs h = sym (take-append-le-or i (take j xs) (drop j xs) (go i j xs h)) ∙ ap (take i) (take-append-drop j xs)
  where
    take-append-le-or : (i : ℕ) (p u : List ℕ) → (i ≤ length p) ⊎ (u ≡ []) → take i (p ++ u) ≡ take i p
    take-append-le-or i p u (inl h) = take-append-le i p u h
    take-append-le-or i p u (inr e) = ap (take i) (ap (λ v. p ++ v) e ∙ append-nil p)

    go : (i j : ℕ) (xs : List ℕ) → i ≤ j → (i ≤ length (take j xs)) ⊎ (drop j xs ≡ [])
    go i j xs h = elim (nat_le j (length xs)) as (λ t. nat_le j (length xs) ≡ t → (i ≤ length (take j xs)) ⊎ (drop j xs ≡ [])) [
      | true ↦ λ e. inl (omega (arith, length-take-le j xs (grind arith), h))
      | false ↦ λ e. inr (nil_from_length (drop j xs) (grind (arith, length-drop)))
    ] refl

pub stays : (k : Kind) (xs : List ℕ) (i j : ℕ) → i ≤ j → begins k (take i xs) ≡ false → begins k (take j xs) ≡ false
stays k xs i j h f = false_from_ne_true _ (λ t. true_false (front k (take i (take j xs)) (drop i (take j xs)) (subst (λ v. begins k v ≡ true) (sym (take-append-drop i (take j xs))) t)) (ap (begins k) (take_again i j xs h) ∙ f))

whole_false : (k : Kind) (p : List ℕ) → begins k p ≡ false → whole k p ≡ false
whole_false k p f = false_from_ne_true _ (λ t. true_false (starts k p t) f)

less_than : (n m : ℕ) (rest : List ℕ) → n < m → m ≤ length rest → n < length rest
less_than n m rest a b = omega (arith, a, b)

pub skips : (k : Kind) (to : Place) (rows : List (Kind × Place)) (e : Edge) (rest : List ℕ) (n : ℕ) (token : Option (Kind × Place))
    → Munched rows e rest n token → fits (clings k) e ≡ false → Munched ((k, to) ∷ rows) e rest n token
skips k to rows e rest n None m u = record {
  within = m.within;
  longest = λ l s i f b. elim i [ inl e1 ↦ true_false f (ap (λ v. fits (clings v) e) (sym e1.0) ∙ u) | inr i ↦ m.longest l s i f b ];
  reached = λ b. let x = m.reached b in (x.0, x.1, inr x.2, x.3, x.4);
  found = m.found;
  none = λ l s i f. elim i [ inl e1 ↦ true_false f (ap (λ v. fits (clings v) e) (sym e1.0) ∙ u) | inr i ↦ m.none l s i f ];
}
skips k to rows e rest n (Some t) m u = record {
  within = m.within;
  longest = λ l s i f b. elim i [ inl e1 ↦ true_false f (ap (λ v. fits (clings v) e) (sym e1.0) ∙ u) | inr i ↦ m.longest l s i f b ];
  reached = λ b. let x = m.reached b in (x.0, x.1, inr x.2, x.3, x.4);
  found = (inr (m.found).0, (m.found).1, (m.found).2);
  none = m.none;
}

pub ties : (k : Kind) (to : Place) (rows : List (Kind × Place)) (e : Edge) (rest : List ℕ) (n at : ℕ) (token : Option (Kind × Place))
    → Munched rows e rest n token → Reached k rest at false → n ≡ at → Munched ((k, to) ∷ rows) e rest n token
ties k to rows e rest n at None m r h = record {
  within = m.within;
  longest = λ l s i f b. elim i [ inl e ↦ subst (λ v. begins v (take (n + 1) rest) ≡ false) e.0 (subst (λ j. begins k (take (j + 1) rest) ≡ false) (sym h) (r.longest (omega (arith, h, b)))) | inr i ↦ m.longest l s i f b ];
  reached = λ b. let x = m.reached b in (x.0, x.1, inr x.2, x.3, x.4);
  found = m.found;
  none = λ l s i f. elim i [ inl e ↦ subst (λ v. whole v (take n rest) ≡ false) e.0 (subst (λ j. whole k (take j rest) ≡ false) (sym h) (sym r.ends)) | inr i ↦ m.none l s i f ];
}
ties k to rows e rest n at (Some t) m r h = record {
  within = m.within;
  longest = λ l s i f b. elim i [ inl e ↦ subst (λ v. begins v (take (n + 1) rest) ≡ false) e.0 (subst (λ j. begins k (take (j + 1) rest) ≡ false) (sym h) (r.longest (omega (arith, h, b)))) | inr i ↦ m.longest l s i f b ];
  reached = λ b. let x = m.reached b in (x.0, x.1, inr x.2, x.3, x.4);
  found = (inr (m.found).0, (m.found).1, (m.found).2);
  none = m.none;
}

pub keeps : (k : Kind) (to : Place) (rows : List (Kind × Place)) (e : Edge) (rest : List ℕ) (n at : ℕ) (token : Option (Kind × Place)) (w : Bool)
    → Munched rows e rest n token → Reached k rest at w → at < n → Munched ((k, to) ∷ rows) e rest n token
keeps k to rows e rest n at None w m r h = record {
  within = m.within;
  longest = λ l s i f b. elim i [ inl e ↦ subst (λ v. begins v (take (n + 1) rest) ≡ false) e.0 (stays k rest (at + 1) (n + 1) (omega (arith, h)) (r.longest (omega (arith, h, m.within)))) | inr i ↦ m.longest l s i f b ];
  reached = λ b. let x = m.reached b in (x.0, x.1, inr x.2, x.3, x.4);
  found = m.found;
  none = λ l s i f. elim i [ inl e ↦ subst (λ v. whole v (take n rest) ≡ false) e.0 (whole_false k _ (stays k rest (at + 1) n (omega (arith, h)) (r.longest (omega (arith, h, m.within))))) | inr i ↦ m.none l s i f ];
}
keeps k to rows e rest n at (Some t) w m r h = record {
  within = m.within;
  longest = λ l s i f b. elim i [ inl e ↦ subst (λ v. begins v (take (n + 1) rest) ≡ false) e.0 (stays k rest (at + 1) (n + 1) (omega (arith, h)) (r.longest (omega (arith, h, m.within)))) | inr i ↦ m.longest l s i f b ];
  reached = λ b. let x = m.reached b in (x.0, x.1, inr x.2, x.3, x.4);
  found = (inr (m.found).0, (m.found).1, (m.found).2);
  none = m.none;
}

pub broken : (k : Kind) (to : Place) (rows : List (Kind × Place)) (e : Edge) (rest : List ℕ) (n at : ℕ) (token : Option (Kind × Place))
    → Munched rows e rest n token → Reached k rest at false → n < at → fits (clings k) e ≡ true → Munched ((k, to) ∷ rows) e rest at None
broken k to rows e rest n at token m r h fit = record {
  within = r.within;
  longest = λ l s i f b. elim i [ inl e ↦ subst (λ v. begins v (take (at + 1) rest) ≡ false) e.0 (r.longest b) | inr i ↦ stays l rest (n + 1) (at + 1) (omega (arith, h)) (m.longest l s i f (omega (arith, h, r.within))) ];
  reached = λ b. (k, to, inl (refl, refl), fit, r.front);
  found = tt;
  none = λ l s i f. elim i [ inl e ↦ subst (λ v. whole v (take at rest) ≡ false) e.0 (sym r.ends) | inr i ↦ whole_false l _ (stays l rest (n + 1) at (omega (arith, h)) (m.longest l s i f (omega (arith, h, r.within)))) ];
}

longer_stays : (l : Kind) (rest : List ℕ) (n at : ℕ) → n ≤ at → at < length rest → (n < length rest → begins l (take (n + 1) rest) ≡ false) → begins l (take (at + 1) rest) ≡ false
longer_stays l rest n at h b f = stays l rest (n + 1) (at + 1) (omega (arith, h)) (f (omega (arith, h, b)))

pub takes_over : (k : Kind) (to : Place) (rows : List (Kind × Place)) (e : Edge) (rest : List ℕ) (n at : ℕ) (token : Option (Kind × Place))
    → Munched rows e rest n token → Reached k rest at true → n ≤ at → fits (clings k) e ≡ true → Munched ((k, to) ∷ rows) e rest at (Some (k, to))
takes_over k to rows e rest n at token m r h fit = record {
  within = r.within;
  longest = λ l s i f b. elim i [ inl e ↦ subst (λ v. begins v (take (at + 1) rest) ≡ false) e.0 (r.longest b) | inr i ↦ longer_stays l rest n at h b (m.longest l s i f) ];
  reached = λ b. (k, to, inl (refl, refl), fit, r.front);
  found = (inl (refl, refl), fit, sym r.ends);
  none = tt;
}

pub broken_by : (k : Kind) (to : Place) (rows : List (Kind × Place)) (e : Edge) (rest : List ℕ) (n at : ℕ) (token : Option (Kind × Place)) (w : Bool)
    → Munched rows e rest n token → Reached k rest at w → w ≡ false → n < at → fits (clings k) e ≡ true → Munched ((k, to) ∷ rows) e rest at None
broken_by k to rows e rest n at token w m r f h fit = broken k to rows e rest n at token m (subst (Reached k rest at) f r) h fit

pub taken_by : (k : Kind) (to : Place) (rows : List (Kind × Place)) (e : Edge) (rest : List ℕ) (n at : ℕ) (token : Option (Kind × Place)) (w : Bool)
    → Munched rows e rest n token → Reached k rest at w → w ≡ true → n ≤ at → fits (clings k) e ≡ true → Munched ((k, to) ∷ rows) e rest at (Some (k, to))
taken_by k to rows e rest n at token w m r f h fit = takes_over k to rows e rest n at token m (subst (Reached k rest at) f r) h fit
