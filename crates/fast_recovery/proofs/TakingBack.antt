-- Changes of one transaction, and those of the others, with the latest first.
use Rattle.std.proofs.Common.{◌≡◌, ℕ, Bool, true, false, cond, ◌&&◌, ◌==◌, refl, ap, sym, ◌∙◌, List, [], ◌∷◌, ◌++◌, length}
use Rattle.std.proofs.lemmas.List.{append-nil}
use Rattle.std.proofs.Math.Dec.{leb-zero}
use Rattle.ids_model.specs.Slots.{Slots, assign}
use Rattle.ids_model.specs.Recovered.{State, SlotChange, all_taken_back, of_tx, others, cut, kept, run}
use Rattle.log_records.specs.Entries.{Rollback}

-- all changes of a transaction are those after its first none
cut-all : (tx : ℕ) (cs : List SlotChange) → cut tx 0 cs ≡ of_tx tx cs
cut-all tx [] = refl
cut-all tx (c ∷ cs) =
    ap (λ b. cond ((c.tx == tx) && b) (c ∷ cut tx 0 cs) (cut tx 0 cs)) (leb-zero (length (of_tx tx cs)))
    ∙ at (c.tx == tx) (cut-all tx cs)
  where
    at : (b : Bool) → cut tx 0 cs ≡ of_tx tx cs → cond (b && true) (c ∷ cut tx 0 cs) (cut tx 0 cs) ≡ cond b (c ∷ of_tx tx cs) (of_tx tx cs)
    at true e = ap (λ l. c ∷ l) e
    at false e = e

kept-others : (tx : ℕ) (cs : List SlotChange) → kept tx 0 cs ≡ others tx cs
kept-others tx [] = refl
kept-others tx (c ∷ cs) =
    ap (λ b. cond ((c.tx == tx) && b) (kept tx 0 cs) (c ∷ kept tx 0 cs)) (leb-zero (length (of_tx tx cs)))
    ∙ at (c.tx == tx) (kept-others tx cs)
  where
    at : (b : Bool) → kept tx 0 cs ≡ others tx cs → cond (b && true) (kept tx 0 cs) (c ∷ kept tx 0 cs) ≡ cond b (others tx cs) (c ∷ others tx cs)
    at true e = e
    at false e = ap (λ l. c ∷ l) e

-- ROLLBACK takes back the changes of its transaction, and leaves those of the others
pub rolled : (s : State) (tx : ℕ) (slots : Slots) (standing : List SlotChange) → slots ≡ assign s.slots (all_taken_back (of_tx tx s.standing)) → standing ≡ others tx s.standing
    → ◌≡◌ {A = State} (record { own = s.own; slots = slots; standing = standing }) (run s (Rollback tx ∷ []))
rolled s tx slots standing p q =
    let back : slots ≡ assign s.slots (all_taken_back (cut tx 0 s.standing) ++ []) =
    p ∙ sym (ap (λ a. assign s.slots a) (append-nil _ ∙ ap all_taken_back (cut-all tx s.standing))) in
    let left : standing ≡ kept tx 0 s.standing = q ∙ sym (kept-others tx s.standing) in
    λ i. record { own = s.own; slots = back i; standing = left i }
