-- Records of a session rise, and its last number is the greatest.
use Rattle.std.proofs.Common.{◌≡◌, ℕ, ◌+◌, ◌≤◌, true, List, ◌∷◌, ◌++◌, None, Option, max, refl, sym, subst, arith, lt-ltb}
use Rattle.log_records.specs.Entries.{Entry, Begin, Commit, Rollback, HInsert, HDelete, HUpdate, Ckpoint}
use Rattle.log_records.specs.Spelling.{tx_of}
use Rattle.ids_model.specs.declared.effect.Effect.{Effect}
use Rattle.ids_model.specs.declared.effect.Effect.TheVariants.{NewTable, Change}
use Rattle.ids_model.specs.Tables.{Tables}
use Rattle.ids_model.specs.Recovered.{State}
use Rattle.ids_model.specs.Logged.{Makes}
use Rattle.fast_recovery.specs.Rising.{rises, greatest_after}
use Rattle.fast_recovery.proofs.Rises.{greatest-append, greatest-later}
use Rattle.ids_engine.specs.Stores.{IsNextTx}

-- a record that makes an effect is of its transaction
pub made_by : (s : State) (T : Tables) (tx : ℕ) (e : Entry) (f : Effect) → Makes s T tx e f → tx_of e ≡ tx
made_by s T tx (HInsert by table slot after) (NewTable n shape) makes = makes.0
made_by s T tx (HInsert by table slot after) (Change n k was now) makes = makes.0
made_by s T tx (HDelete by table slot before) (Change n k was now) makes = makes.0
made_by s T tx (HDelete by table slot before) (NewTable n shape) makes = absurd makes
made_by s T tx (HUpdate by table slot before after) (Change n k was now) makes = makes.0
made_by s T tx (HUpdate by table slot before after) (NewTable n shape) makes = absurd makes
made_by s T tx (Begin by session) f makes = absurd makes
made_by s T tx (Commit by) f makes = absurd makes
made_by s T tx (Rollback by) f makes = absurd makes
made_by s T tx (Ckpoint named) f makes = absurd makes

-- and is no BEGIN
pub made_rises : (s : State) (T : Tables) (tx last : ℕ) (e : Entry) (f : Effect) → Makes s T tx e f → rises last e ≡ true
made_rises s T tx last (HInsert by table slot after) f makes = refl
made_rises s T tx last (HDelete by table slot before) f makes = refl
made_rises s T tx last (HUpdate by table slot before after) f makes = refl
made_rises s T tx last (Begin by session) f makes = absurd makes
made_rises s T tx last (Commit by) f makes = refl
made_rises s T tx last (Rollback by) f makes = refl
made_rises s T tx last (Ckpoint named) f makes = refl

-- a BEGIN with the next number
pub next_rises : (last tx greatest : ℕ) → last ≡ greatest → tx ≡ last + 1 → rises greatest (Begin tx 1) ≡ true
next_rises last tx greatest is next = lt-ltb greatest tx (omega (arith, is, next))

-- the number that comes next where no transaction is open
pub next_number : (o : Option ℕ) (last tx : ℕ) → o ≡ None → IsNextTx o last tx → tx ≡ last + 1
next_number o last tx none next = subst (λ (p : Option ℕ). IsNextTx p last tx) none next

-- the greatest number after records is at least the one that the last of them have
within : (n tx : ℕ) (xs ys : List Entry) → ((m : ℕ) → tx ≤ greatest_after m ys) → tx ≤ greatest_after n (xs ++ ys)
within n tx xs ys low = subst (λ (g : ℕ). tx ≤ g) (sym (greatest-append n xs ys)) (low (greatest_after n xs))

-- a transaction that is under way
pub begun_number : (n tx : ℕ) (before closing logs changes : List Entry) → tx ≤ greatest_after n (before ++ (closing ++ (logs ++ Begin tx 1 ∷ changes)))
begun_number n tx before closing logs changes =
    within n tx before _ (λ m. within m tx closing _ (λ k. within k tx logs _ (λ j. low j (greatest-later (max j tx) changes))))
  where
    low : (j : ℕ) → max j tx ≤ greatest_after (max j tx) changes → tx ≤ greatest_after (max j tx) changes
    low j le = omega (arith, le)
