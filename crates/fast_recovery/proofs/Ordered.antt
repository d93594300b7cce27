-- Records in order, and what stands after them.
use Rattle.std.proofs.Common.{◌≡◌, ℕ, suc, ◌+◌, ◌==◌, Bool, true, false, cond, List, [], ◌∷◌, ◌++◌, length, take, drop, Option, Some, None, refl, sym, ◌∙◌, ap, subst, arith, eq-eqb, ◌&&◌, zero}
use Rattle.std.proofs.Math.Dec.{leb-zero}
use Rattle.std.proofs.lemmas.List.{take-append-drop}
use Rattle.std.specs.Prelude.{option_and_then, nat_le}
use Rattle.log_records.specs.Entries.{Entry, Begin, Commit, Rollback, HInsert, HDelete, HUpdate, Ckpoint}
use Rattle.ids_model.specs.Recovered.{SlotChange, State, run, AreOf, of_tx, note, noted, others, kept, inserted, deleted, updated}
use Rattle.ids_model.specs.RecoveryLaws.{RunsJoin}
use Rattle.fast_recovery.specs.Order.{open_by, open_in}
use Rattle.fast_recovery.specs.InPlace.{all_in_place}
use Rattle.fast_recovery.specs.Rising.{all_rise, greatest_after}
use Rattle.fast_recovery.specs.LogRead.{AreAlone, GoesOn}
use Rattle.fast_recovery.specs.declared.past.Past.{Past}
use Rattle.fast_recovery.proofs.Placed.{places-append}
use Rattle.fast_recovery.proofs.Rises.{rises-append, greatest-append}

-- records, and others behind them
pub open_in-append : (o : Option ℕ) (xs ys : List Entry) → open_in o (xs ++ ys) ≡ option_and_then (λ p. open_in p ys) (open_in o xs)
open_in-append o [] ys = refl
open_in-append o (e ∷ xs) ys = at (open_by o e) (λ p. open_in-append p xs ys)
  where
    at : (m : Option (Option ℕ)) → ((p : Option ℕ) → open_in p (xs ++ ys) ≡ option_and_then (λ q. open_in q ys) (open_in p xs))
        → option_and_then (λ p. open_in p (xs ++ ys)) m ≡ option_and_then (λ q. open_in q ys) (option_and_then (λ p. open_in p xs) m)
    at None more = refl
    at (Some p) more = more p

pub open_in-then : (o p : Option ℕ) (xs ys : List Entry) → open_in o xs ≡ Some p → open_in o (xs ++ ys) ≡ open_in p ys
open_in-then o p xs ys is = open_in-append o xs ys ∙ ap (λ m. option_and_then (λ q. open_in q ys) m) is

-- a record out of order, whatever follows
pub open_in-none : (o p : Option ℕ) (xs : List Entry) (e : Entry) (rest : List Entry) → open_in o xs ≡ Some p → open_by p e ≡ None → open_in o (xs ++ e ∷ rest) ≡ None
open_in-none o p xs e rest is none = open_in-then o p xs (e ∷ rest) is ∙ ap (λ m. option_and_then (λ q. open_in q rest) m) none

module _ (pages : ℕ) where
  -- by no records a past stays
  pub goes-none : (p : Past) → GoesOn pages p [] p
  goes-none p = record { order = refl; places = refl; replay = refl; rising = refl; greatest = refl }

  -- by records and others it goes on as by both
  pub goes-both : RunsJoin → (p q r : Past) (xs ys : List Entry) → GoesOn pages p xs q → GoesOn pages q ys r → GoesOn pages p (xs ++ ys) r
  goes-both join p q r xs ys one two = record {
    order = open_in-then p.open_tx q.open_tx xs ys one.order ∙ two.order;
    places = places-append join pages p.replay.own xs ys one.places (subst (λ (s : State). all_in_place pages s.own ys ≡ true) one.replay two.places);
    replay = two.replay ∙ ap (λ (s : State). run s ys) one.replay ∙ sym (join p.replay xs ys);
    rising = rises-append p.last_tx xs ys one.rising (subst (λ (n : ℕ). all_rise n ys ≡ true) one.greatest two.rising);
    greatest = two.greatest ∙ ap (λ (n : ℕ). greatest_after n ys) one.greatest ∙ sym (greatest-append p.last_tx xs ys);
  }

-- the next of what is left stands between the front and the rest
pub left-split : {A : Type 0} (xs : List A) (i : ℕ) (x : A) (rest : List A) → drop i xs ≡ x ∷ rest → xs ≡ take i xs ++ x ∷ rest
left-split xs i x rest e = sym (take-append-drop i xs) ∙ ap (λ l. take i xs ++ l) e

take-left : {A : Type 0} (xs : List A) (i : ℕ) (x : A) (rest : List A) → drop i xs ≡ x ∷ rest → take (suc i) xs ≡ take i xs ++ x ∷ []
take-left [] zero x rest e = absurd cc
take-left [] (suc i) x rest e = absurd cc
take-left (y ∷ ys) zero x rest e = cc
take-left (y ∷ ys) (suc i) x rest e = ap (λ l. y ∷ l) (take-left ys i x rest e)

drop-left : {A : Type 0} (xs : List A) (i : ℕ) (x : A) (rest : List A) → drop i xs ≡ x ∷ rest → drop (suc i) xs ≡ rest
drop-left [] zero x rest e = absurd cc
drop-left [] (suc i) x rest e = absurd cc
drop-left (y ∷ ys) zero x rest e = cc
drop-left (y ∷ ys) (suc i) x rest e = drop-left ys i x rest e

-- and one more is in front of the others
pub left-take : {A : Type 0} (xs : List A) (i : ℕ) (x : A) (rest : List A) → drop i xs ≡ x ∷ rest → take (i + 1) xs ≡ take i xs ++ x ∷ []
left-take xs i x rest e = let next : i + 1 ≡ suc i = omega arith in ap (λ n. take n xs) next ∙ take-left xs i x rest e

pub left-drop : {A : Type 0} (xs : List A) (i : ℕ) (x : A) (rest : List A) → drop i xs ≡ x ∷ rest → drop (i + 1) xs ≡ rest
left-drop xs i x rest e = let next : i + 1 ≡ suc i = omega arith in ap (λ n. drop n xs) next ∙ drop-left xs i x rest e

eqb-eq : (a b : ℕ) → (a == b) ≡ true → a ≡ b
eqb-eq a b h = grind (arith, h)

module _ (tx : ℕ) where
  -- where the changes are of one transaction, none is left when they are forgotten, or taken back
  pub others-none : (cs : List SlotChange) → AreOf tx cs → others tx cs ≡ []
  others-none [] of = refl
  others-none (c ∷ cs) of = ap (λ b. cond b (others tx cs) (c ∷ others tx cs)) (eq-eqb c.tx tx of.0) ∙ others-none cs of.1

  pub kept-none : (cs : List SlotChange) → AreOf tx cs → kept tx 0 cs ≡ []
  kept-none [] of = refl
  kept-none (c ∷ cs) of =
      ap (λ b. cond (b && nat_le 0 (length (of_tx tx cs))) (kept tx 0 cs) (c ∷ kept tx 0 cs)) (eq-eqb c.tx tx of.0)
      ∙ ap (λ b. cond b (kept tx 0 cs) (c ∷ kept tx 0 cs)) (leb-zero (length (of_tx tx cs))) ∙ kept-none cs of.1

-- one more change, by the open transaction
stays : (o tx : ℕ) (p : Option ℕ) (cs : List SlotChange) (c : SlotChange) → c.tx ≡ tx → AreOf o cs → cond (o == tx) (Some (Some o)) None ≡ Some p → AreAlone p (c ∷ cs)
stays o tx p cs c by alone is = at (o == tx) refl is
  where
    at : (b : Bool) → (o == tx) ≡ b → cond b (Some (Some o)) None ≡ Some p → AreAlone p (c ∷ cs)
    at false is' h = cc
    at true is' h = let now : Some o ≡ p = cc in let same : c.tx ≡ o = by ∙ sym (eqb-eq o tx is') in subst (λ q. AreAlone q (c ∷ cs)) now (same, alone)

-- one more record, while what stands is of the open transaction alone
alone-note : (o p : Option ℕ) (e : Entry) (cs : List SlotChange) → AreAlone o cs → open_by o e ≡ Some p → AreAlone p (note cs e)
alone-note None p (Begin tx session) cs alone is = subst (λ q. AreAlone q cs) is' (subst (λ l. AreOf tx l) (sym alone) tt)
  where
    is' : Some tx ≡ p
    is' = cc
alone-note (Some o) p (Begin tx session) cs alone is = cc
alone-note None p (Commit tx) cs alone is = cc
alone-note (Some o) p (Commit tx) cs alone is = ends (o == tx) refl is
  where
    ends : (b : Bool) → (o == tx) ≡ b → cond b (Some None) None ≡ Some p → AreAlone p (others tx cs)
    ends false is' h = cc
    ends true is' h =
        let now : None ≡ p = cc in let same : o ≡ tx = eqb-eq o tx is' in
        subst (λ q. AreAlone q (others tx cs)) now (others-none tx cs (subst (λ t. AreOf t cs) same alone))
alone-note None p (Rollback tx) cs alone is = cc
alone-note (Some o) p (Rollback tx) cs alone is = ends (o == tx) refl is
  where
    ends : (b : Bool) → (o == tx) ≡ b → cond b (Some None) None ≡ Some p → AreAlone p (kept tx 0 cs)
    ends false is' h = cc
    ends true is' h =
        let now : None ≡ p = cc in let same : o ≡ tx = eqb-eq o tx is' in
        subst (λ q. AreAlone q (kept tx 0 cs)) now (kept-none tx cs (subst (λ t. AreOf t cs) same alone))
alone-note None p (HInsert tx table slot after) cs alone is = cc
alone-note (Some o) p (HInsert tx table slot after) cs alone is = stays o tx p cs (inserted tx slot after) refl alone is
alone-note None p (HDelete tx table slot before) cs alone is = cc
alone-note (Some o) p (HDelete tx table slot before) cs alone is = stays o tx p cs (deleted tx slot before) refl alone is
alone-note None p (HUpdate tx table slot before after) cs alone is = cc
alone-note (Some o) p (HUpdate tx table slot before after) cs alone is = stays o tx p cs (updated tx slot before after) refl alone is
alone-note o p (Ckpoint named) cs alone is = let same : o ≡ p = cc in subst (λ q. AreAlone q cs) same alone

-- what stands stays of the open transaction alone
pub alone-run : (o p : Option ℕ) (es : List Entry) (cs : List SlotChange) → AreAlone o cs → open_in o es ≡ Some p → AreAlone p (noted cs es)
alone-run o p [] cs alone is = let same : o ≡ p = cc in subst (λ q. AreAlone q cs) same alone
alone-run o p (e ∷ es) cs alone is = at (open_by o e) refl is (λ q step rest. alone-run q p es (note cs e) (alone-note o q e cs alone step) rest)
  where
    at : (m : Option (Option ℕ)) → open_by o e ≡ m → option_and_then (λ q. open_in q es) m ≡ Some p
        → ((q : Option ℕ) → open_by o e ≡ Some q → open_in q es ≡ Some p → AreAlone p (noted (note cs e) es)) → AreAlone p (noted (note cs e) es)
    at None step h more = cc
    at (Some q) step h more = more q step h

pub alone-goes : (pages : ℕ) (p : Past) (es : List Entry) (q : Past) → AreAlone p.open_tx p.replay.standing → GoesOn pages p es q → AreAlone q.open_tx q.replay.standing
alone-goes pages p es q alone goes =
    subst (λ (s : State). AreAlone q.open_tx s.standing) (sym goes.replay) (alone-run p.open_tx q.open_tx es p.replay.standing alone goes.order)
