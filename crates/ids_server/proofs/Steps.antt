-- A statement that stands next in the script keeps what a run keeps.
use Rattle.std.proofs.Common.{◌≡◌, refl, sym, ap, subst, ◌∙◌, arith, ⊎_elim, ◌≤◌, ℕ, List, [], ◌∷◌, ◌++◌, Option, Some, None}
use Rattle.std.specs.List.{AllByRecursion}
use Rattle.std.proofs.lemmas.List.{append-nil}
use Rattle.ids_base.specs.declared.plan.Plan.{Plan}
use Rattle.ids_base.specs.declared.plan.DataStatement.{DataStatement}
use Rattle.ids_base.specs.declared.plan.Plan.TheVariants.{Data, Begin, Commit, Rollback}
use Rattle.ids_base.specs.declared.reply.Reply.{Reply}
use Rattle.ids_base.specs.declared.reply.Reply.TheVariants.{RolledBack}
use Rattle.ids_model.specs.declared.effect.Effect.{Effect}
use Rattle.ids_model.specs.declared.journal.DoneStatement.{DoneStatement}
use Rattle.ids_model.specs.declared.journal.Committed.{Committed}
use Rattle.ids_model.specs.declared.journal.Given.{Given}
use Rattle.ids_model.specs.Tables.{Tables, apply, apply_all}
use Rattle.ids_model.specs.Undone.{undo_all, ArePast, UndoneAreBack, FittingArePast}
use Rattle.ids_model.specs.Moves.{EffectsFit}
use Rattle.ids_model.specs.Meaning.{one}
use Rattle.ids_model.specs.Legal.{fold_journal}
use Rattle.ids_model.specs.Matches.{Script, Outside, Inside}
use Rattle.ids_model.specs.Served as served
use Rattle.ids_model.specs.Served.{IsServed, entry_now, entry_unanswered, given_now, done_now, IsNext}
use Rattle.ids_engine.specs.Journals.{IsFrom, IsTimely, AreTimely, IsSettledBy, IsSettled, JournalsGoOn}
use Rattle.ids_server.specs.declared.runner.Transaction.{Transaction}
use Rattle.ids_server.specs.Running.{Running, flushed_at, IsOutcome, data_by, begin_by, commit_by, rollback_by, Steps, IsUnanswered, Fails, work_of, effects_of, IsRunning, HasEnded}

-- what the crates below promise of their definitions
pub record Laws : Type 0 where
  pub begins : served.BeginsKeepServed
  pub second_begins : served.SecondBeginsKeepServed
  pub lone_commits : served.LoneCommitsKeepServed
  pub statements : served.StatementsKeepServed
  pub refusals : served.RefusalsKeepServed
  pub commits : served.CommitsKeepServed
  pub singles : served.SinglesKeepServed
  pub single_refusals : served.SingleRefusalsKeepServed
  pub unanswered_commits : served.UnansweredCommitsMatch
  pub unanswered_singles : served.UnansweredSinglesMatch
  pub lone_rollbacks : served.LoneRollbacksKeepServed
  pub rollbacks : served.RollbacksKeepServed
  pub undone : UndoneAreBack
  pub fitting : FittingArePast
  pub fit : EffectsFit
  pub journals : JournalsGoOn

-- effects that say truly what was before them, one list behind another
past_join : (T : Tables) (es fs : List Effect) → ArePast T es → ArePast (apply_all T es) fs → ArePast T (es ++ fs)
past_join T [] fs first then = then
past_join T (e ∷ es) fs first then = (first.0, past_join (apply T e) es fs first.1 then)

-- what was flushed by a moment was flushed by a later one
settled_by : (m n : ℕ) → m ≤ n → (effects : List Effect) (flushed : Option ℕ) → IsSettledBy m effects flushed → IsSettledBy n effects flushed
settled_by m n le [] flushed is = tt
settled_by m n le (e ∷ es) None is = is
settled_by m n le (e ∷ es) (Some at) is = omega (arith, le, is)

settled_later : (m n : ℕ) → m ≤ n → (cs : List Committed) → AllByRecursion (IsSettled m) cs → AllByRecursion (IsSettled n) cs
settled_later m n le [] all = tt
settled_later m n le (c ∷ cs) all = (settled_by m n le c.effects c.flushed all.0, settled_later m n le cs all.1)

settled_more : (m : ℕ) (cs : List Committed) (c : Committed) → AllByRecursion (IsSettled m) cs → IsSettled m c → AllByRecursion (IsSettled m) (cs ++ c ∷ [])
settled_more m [] c all is = (is, tt)
settled_more m (d ∷ cs) c all is = (all.0, settled_more m cs c all.1 is)

flushed_now : (effects : List Effect) (m : ℕ) → IsSettledBy m effects (flushed_at effects m)
flushed_now [] m = tt
flushed_now (e ∷ es) m = omega arith

from_flush : (m n : ℕ) → m ≤ n → (effects : List Effect) → IsFrom m (flushed_at effects n)
from_flush m n le [] = tt
from_flush m n le (e ∷ es) = le

timely_now : (n : ℕ) (effects : List Effect) (done : List DoneStatement) → IsTimely effects (entry_now 1 done effects n (flushed_at effects n)) []
timely_now n [] done = tt
timely_now n (e ∷ es) done = (omega arith, tt)

timely_open : (effects : List Effect) (done : List DoneStatement) → IsTimely effects (entry_unanswered 1 done effects None) []
timely_open [] done = tt
timely_open (e ∷ es) done = (refl, refl)

module _ (laws : Laws) (script : Script) (found : Tables) (before moment : ℕ) (le : before ≤ moment) (r : Running) (running : IsRunning script found before r) where
  -- the session with the open transaction that it is in
  served_in : (i : Option Transaction) → r.inside ≡ i → IsServed script 1 found r.journal r.given (work_of i) (effects_of i) r.tables
  served_in i is = subst (λ j. IsServed script 1 found r.journal r.given (work_of j) (effects_of j) r.tables) is running.served

  -- and back
  back : (i : Option Transaction) → r.inside ≡ i → (journal : List Committed) (given : List Given) (tables : Tables)
      → IsServed script 1 found journal given (work_of i) (effects_of i) tables → IsServed script 1 found journal given (work_of r.inside) (effects_of r.inside) tables
  back i is journal given tables h = subst (λ j. IsServed script 1 found journal given (work_of j) (effects_of j) tables) (sym is) h

  -- what its open transaction says of the tables before it
  past_in : (i : Option Transaction) → r.inside ≡ i → ArePast (fold_journal found r.journal) (effects_of i)
  past_in i is = subst (λ j. ArePast (fold_journal found r.journal) (effects_of j)) is running.past

  -- where none is open
  past_none : (journal : List Committed) → r.inside ≡ None → ArePast (fold_journal found journal) (effects_of r.inside)
  past_none journal is = subst (λ j. ArePast (fold_journal found journal) (effects_of j)) (sym is) tt

  settled_still : AllByRecursion (IsSettled moment) r.journal
  settled_still = settled_later before moment le r.journal running.settled

  -- one more entry
  timely_with : (done : List DoneStatement) (effects : List Effect) → AreTimely (r.journal ++ entry_now 1 done effects moment (flushed_at effects moment) ∷ [])
  timely_with done effects =
      laws.journals r.journal before (entry_now 1 done effects moment (flushed_at effects moment)) running.timely running.settled (le, from_flush before moment le effects) (timely_now moment effects done)

  settled_with : (done : List DoneStatement) (effects : List Effect) → AllByRecursion (IsSettled moment) (r.journal ++ entry_now 1 done effects moment (flushed_at effects moment) ∷ [])
  settled_with done effects = settled_more moment r.journal (entry_now 1 done effects moment (flushed_at effects moment)) settled_still (flushed_now effects moment)

  -- a data statement outside a transaction
  abbrev Single : DataStatement → Reply → List Effect → Type 0
  Single s reply effects =
      IsServed script 1 found (r.journal ++ entry_now 1 (done_now r.given s reply ∷ []) effects moment (flushed_at effects moment) ∷ [])
      (r.given ++ given_now 1 (r.journal ++ entry_now 1 (done_now r.given s reply ∷ []) effects moment (flushed_at effects moment) ∷ []) r.given reply ∷ [])
      Outside [] (apply_all r.tables effects)

  single : (s : DataStatement) (reply : Reply) (effects : List Effect) → r.inside ≡ None → IsNext script 1 r.given (Data s) → IsOutcome r.tables s reply effects → Single s reply effects
  single s reply effects is is_next o =
      ⊎_elim
      (λ h. subst (λ p. Single s p effects) (sym h.0) (subst (λ es. Single s (one r.tables s).reply es) (sym h.1)
      (laws.singles script 1 found r.journal r.given [] r.tables s moment (flushed_at (one r.tables s).effects moment) (served_in None is) is_next)))
      (λ h. subst (λ es. Single s reply es) (sym h.2) (laws.single_refusals script 1 found r.journal r.given [] r.tables s reply moment None (served_in None is) is_next h.1 h.0))
      o

  -- and inside one
  abbrev Joined : Transaction → DataStatement → Reply → List Effect → Type 0
  Joined t s reply effects =
      IsServed script 1 found r.journal (r.given ++ given_now 1 r.journal r.given reply ∷ []) (Inside (t.done ++ done_now r.given s reply ∷ [])) (t.effects ++ effects) (apply_all r.tables effects)

  joined : (t : Transaction) (s : DataStatement) (reply : Reply) (effects : List Effect) → r.inside ≡ Some t → IsNext script 1 r.given (Data s) → IsOutcome r.tables s reply effects → Joined t s reply effects
  joined t s reply effects is is_next o =
      ⊎_elim
      (λ h. subst (λ p. Joined t s p effects) (sym h.0) (subst (λ es. Joined t s (one r.tables s).reply es) (sym h.1)
      (laws.statements script 1 found r.journal r.given t.done t.effects r.tables s (served_in (Some t) is) is_next)))
      (λ h. subst (λ es. Joined t s reply es) (sym h.2)
      (subst (λ es. IsServed script 1 found r.journal (r.given ++ given_now 1 r.journal r.given reply ∷ []) (Inside (t.done ++ done_now r.given s reply ∷ [])) es r.tables) (sym (append-nil t.effects))
      (laws.refusals script 1 found r.journal r.given t.done t.effects r.tables s reply (served_in (Some t) is) is_next h.1 h.0)))
      o

  -- its effects with those of one more statement
  past_joined : (t : Transaction) (s : DataStatement) (reply : Reply) (effects : List Effect) → r.inside ≡ Some t → IsOutcome r.tables s reply effects
      → ArePast (fold_journal found r.journal) (t.effects ++ effects)
  past_joined t s reply effects is o =
      let fold = fold_journal found r.journal in
      let meant : ArePast r.tables effects =
      ⊎_elim
      (λ h. subst (λ es. ArePast r.tables es) (sym h.1) (laws.fitting r.tables (one r.tables s).effects (laws.fit r.tables s)))
      (λ h. subst (λ es. ArePast r.tables es) (sym h.2) tt)
      o in
      past_join fold t.effects effects (past_in (Some t) is) (subst (λ T. ArePast T effects) (served_in (Some t) is).shown meant)

  keeps_data : (s : DataStatement) (reply : Reply) (effects : List Effect) → IsNext script 1 r.given (Data s) → IsOutcome r.tables s reply effects
      → (i : Option Transaction) → r.inside ≡ i → IsRunning script found moment (data_by moment r i s reply effects)
  keeps_data s reply effects is_next o None is = record {
    served = back None is _ _ _ (single s reply effects is is_next o);
    past = past_none (r.journal ++ entry_now 1 (done_now r.given s reply ∷ []) effects moment (flushed_at effects moment) ∷ []) is;
    timely = timely_with (done_now r.given s reply ∷ []) effects;
    settled = settled_with (done_now r.given s reply ∷ []) effects;
  }
  keeps_data s reply effects is_next o (Some t) is = record {
    served = joined t s reply effects is is_next o;
    past = past_joined t s reply effects is o;
    timely = running.timely;
    settled = settled_still;
  }

  keeps_begin : IsNext script 1 r.given Begin → (i : Option Transaction) → r.inside ≡ i → IsRunning script found moment (begin_by r i)
  keeps_begin is_next None is = record {
    served = laws.begins script 1 found r.journal r.given [] r.tables (served_in None is) is_next;
    past = tt;
    timely = running.timely;
    settled = settled_still;
  }
  keeps_begin is_next (Some t) is = record {
    served = back (Some t) is _ _ _ (laws.second_begins script 1 found r.journal r.given t.done t.effects r.tables (served_in (Some t) is) is_next);
    past = running.past;
    timely = running.timely;
    settled = settled_still;
  }

  keeps_commit : IsNext script 1 r.given Commit → (i : Option Transaction) → r.inside ≡ i → IsRunning script found moment (commit_by moment r i)
  keeps_commit is_next None is = record {
    served = back None is _ _ _ (laws.lone_commits script 1 found r.journal r.given [] r.tables (served_in None is) is_next);
    past = running.past;
    timely = running.timely;
    settled = settled_still;
  }
  keeps_commit is_next (Some t) is = record {
    served = laws.commits script 1 found r.journal r.given t.done t.effects r.tables moment (flushed_at t.effects moment) (served_in (Some t) is) is_next;
    past = tt;
    timely = timely_with t.done t.effects;
    settled = settled_with t.done t.effects;
  }

  keeps_rollback : IsNext script 1 r.given Rollback → (i : Option Transaction) → r.inside ≡ i → IsRunning script found moment (rollback_by r i)
  keeps_rollback is_next None is = record {
    served = back None is _ _ _ (laws.lone_rollbacks script 1 found r.journal r.given [] r.tables (served_in None is) is_next);
    past = running.past;
    timely = running.timely;
    settled = settled_still;
  }
  keeps_rollback is_next (Some t) is =
      let fold = fold_journal found r.journal in
      let before : undo_all r.tables t.effects ≡ fold =
      ap (λ T. undo_all T t.effects) (served_in (Some t) is).shown ∙ laws.undone fold t.effects (past_in (Some t) is) in
      record {
        served = subst (λ T. IsServed script 1 found r.journal (r.given ++ given_now 1 r.journal r.given RolledBack ∷ []) Outside [] T) (sym before)
            (laws.rollbacks script 1 found r.journal r.given t.done t.effects r.tables (served_in (Some t) is) is_next);
        past = tt;
        timely = running.timely;
        settled = settled_still;
      }

  pub keeps_step : (plan : Plan) (new : Running) → IsNext script 1 r.given plan → Steps moment r plan new → IsRunning script found moment new
  keeps_step (Data s) new is_next steps = subst (IsRunning script found moment) (sym steps.3) (keeps_data s steps.0 steps.1 is_next steps.2 r.inside refl)
  keeps_step Begin new is_next is = subst (IsRunning script found moment) (sym is) (keeps_begin is_next r.inside refl)
  keeps_step Commit new is_next is = subst (IsRunning script found moment) (sym is) (keeps_commit is_next r.inside refl)
  keeps_step Rollback new is_next is = subst (IsRunning script found moment) (sym is) (keeps_rollback is_next r.inside refl)

  -- what a run leaves
  pub ended : HasEnded script found r.journal r.given
  ended = record { matches = running.served.matches; legal = running.served.legal; replies = running.served.answered; timely = running.timely }

  timely_waits : (done : List DoneStatement) (effects : List Effect) → AreTimely (r.journal ++ entry_unanswered 1 done effects None ∷ [])
  timely_waits done effects = laws.journals r.journal before (entry_unanswered 1 done effects None) running.timely running.settled (tt, tt) (timely_open effects done)

  -- also where a commit is not answered
  unanswered : (plan : Plan) (journal : List Committed) → IsNext script 1 r.given plan → (i : Option Transaction) → r.inside ≡ i → IsUnanswered r i plan journal → HasEnded script found journal r.given
  unanswered (Data s) journal is_next None is un =
      let accords = laws.unanswered_singles script 1 found r.journal r.given [] r.tables s None (served_in None is) is_next in
      subst (λ js. HasEnded script found js r.given) (sym un)
      (record { matches = accords.0; legal = accords.1; replies = accords.2; timely = timely_waits (done_now r.given s (one r.tables s).reply ∷ []) (one r.tables s).effects })
  unanswered (Data s) journal is_next (Some t) is un = absurd un
  unanswered Begin journal is_next None is un = absurd un
  unanswered Begin journal is_next (Some t) is un = absurd un
  unanswered Commit journal is_next None is un = absurd un
  unanswered Commit journal is_next (Some t) is un =
      let accords = laws.unanswered_commits script 1 found r.journal r.given t.done t.effects r.tables None (served_in (Some t) is) is_next in
      subst (λ js. HasEnded script found js r.given) (sym un)
      (record { matches = accords.0; legal = accords.1; replies = accords.2; timely = timely_waits t.done t.effects })
  unanswered Rollback journal is_next None is un = absurd un
  unanswered Rollback journal is_next (Some t) is un = absurd un

  pub failed : (plan : Plan) (journal : List Committed) → IsNext script 1 r.given plan → Fails r plan journal → HasEnded script found journal r.given
  failed plan journal is_next fails =
      ⊎_elim (λ same. subst (λ js. HasEnded script found js r.given) (sym same) ended) (λ un. unanswered plan journal is_next r.inside refl un) fails
