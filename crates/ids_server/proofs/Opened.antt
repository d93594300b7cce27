-- What a run over the store of a disk gives back, from what its opening found and what its session leaves.
use Rattle.std.proofs.Common.{◌≡◌, ◌∙◌, refl, sym, ap, subst, inl, inr, ℕ, ◌+◌, true, List, [], None, arith}
use Rattle.ids_base.specs.declared.status.Status.{Status}
use Rattle.ids_base.specs.declared.status.Status.TheVariants.{Done, DiskFault}
use Rattle.ids_outside.specs.Images.{Image}
use Rattle.ids_outside.specs.declared.disk.Disk.{Ghosts}
use Rattle.ids_model.specs.declared.journal.Committed.{Committed}
use Rattle.ids_model.specs.declared.journal.Given.{Given}
use Rattle.ids_model.specs.Tables.{Tables}
use Rattle.ids_model.specs.Legal.{fold_journal}
use Rattle.ids_model.specs.Matches.{Script}
use Rattle.ids_model.specs.Answered.{fold_first}
use Rattle.ids_model.specs.Served.{ServedAtStart}
use Rattle.fast_recovery.specs.Images.{Recovers}
use Rattle.fast_recovery.specs.Opening.{KeepsTables, TablesStay}
use Rattle.fast_recovery.proofs.Stopping.{each-since, each-as}
use Rattle.ids_engine.specs.declared.store.Store.{Store}
use Rattle.ids_engine.specs.Survival.{Survives, IsLeft, tables_from}
use Rattle.ids_engine.specs.Stores.{KeepsStore}
use Rattle.ids_engine.specs.Openings.{HasFound}
use Rattle.ids_engine.specs.Journals.{done_of, AreTimely, FirstsAreCovered, TransactionsLeaveTables}
use Rattle.sql_reader.specs.Lines.{InGrammar}
use Rattle.sql_reader.specs.Plans.{IsScriptOf}
use Rattle.ids_server.specs.declared.runner.Runner.{Runner}
use Rattle.ids_server.specs.Running.{Running, effects_of}
use Rattle.ids_server.specs.Runners.{running_of, KeepsRun}
use Rattle.ids_server.specs.Moments.{HaveMoments}
use Rattle.ids_server.proofs.Refused.{TellsBad}
use Rattle.ids_server.specs.Serving.{Serves, HasRun, LeavesFirst, RunsFrom, has_checked}

-- where nothing was given and nothing committed, any script is served
pub serves_nothing : ServedAtStart → (bytes : List ℕ) (found : Tables) (status : Status) → ¬ (status ≡ Done) → (has_checked status ≡ true → InGrammar bytes) → TellsBad bytes status → Serves bytes found status [] []
serves_nothing starts bytes found status not_done checked bad = record {
  matches = λ script is. (starts script 1 found).matches;
  replies = λ script is. (starts script 1 found).answered;
  answered = λ done. absurd (not_done done);
  ran = checked;
  unread = inl (refl, refl);
  bad = bad;
}

-- where a stop leaves the first of a journal's transactions, it leaves the tables after its first entries
leaves_first : FirstsAreCovered → (found T : Tables) (journal : List Committed) (m : ℕ) (c : Image) → T ≡ found → AreTimely journal → IsLeft found (done_of journal) m c → LeavesFirst T journal m c
leaves_first covered found T journal m c same timely left =
    let first = covered journal m left.count timely left.flushed in
    record {
      k = first.k;
      covered = first.covered;
      recovers = subst (Recovers c) (sym (ap (λ (F : Tables). fold_first F journal first.k) same ∙ first.tables found)) left.recovers;
    }

-- the bytes of a script have a script
abbrev pub HaveScripts : Type 0
HaveScripts = (bytes : List ℕ) → InGrammar bytes → (script : Script) × IsScriptOf bytes script

-- what the laws say of a run of these bytes
pub record RunLaws : Type 0 where
  pub scripts : HaveScripts
  pub covered : FirstsAreCovered
  pub leave : TransactionsLeaveTables

module _ {D : Type 0} (tells : Type 0) (now : D → ℕ) (image : D → Image) (can_leave : D → Image → Type 0) (left_at : D → ℕ → Image → Type 0) where
  -- A disk on which nothing was run: where each stop leaves the tables as they were, it leaves those after no entry.
  nothing_ran : ServedAtStart → (bytes : List ℕ) (found : Tables) (old new : D) (status : Status) (failed : Type 0) → ¬ (status ≡ Done) → (has_checked status ≡ true → InGrammar bytes) → TellsBad bytes status
      → (failed → status ≡ DiskFault) → TablesStay now image can_leave left_at old new failed → RunsFrom tells now image can_leave left_at bytes found old new status [] []
  nothing_ran starts bytes found old new status failed not_done checked bad so stay = record {
    legal = tt;
    serves = serves_nothing starts bytes found status not_done checked bad;
    moments = tt;
    opened = λ t T recovers. inl (refl, refl);
    any_moment = λ bound. each-as now image can_leave left_at old new failed _ (λ m c. KeepsTables (image old) c) (λ m c. (T : Tables) → Recovers (image old) T → LeavesFirst T [] m c)
        (λ fault. (so fault, refl, refl)) (λ m c keeps T recovers. record { k = 0; covered = tt; recovers = keeps T recovers }) (stay bound);
    at_end = λ done. absurd (not_done done);
  }

  -- the same journal and the same replies
  pub runs_shown : (bytes : List ℕ) (found : Tables) (old new : D) (status : Status) (journal shown : List Committed) (given told : List Given) → shown ≡ journal → told ≡ given
      → RunsFrom tells now image can_leave left_at bytes found old new status journal given → RunsFrom tells now image can_leave left_at bytes found old new status shown told
  runs_shown bytes found old new status journal shown given told same alike ran =
      subst (λ (js : List Committed). RunsFrom tells now image can_leave left_at bytes found old new status js told) (sym same)
      (subst (λ (gs : List Given). RunsFrom tells now image can_leave left_at bytes found old new status journal gs) (sym alike) ran)

  pub runs_nothing : ServedAtStart → (bytes : List ℕ) (found : Tables) (old new : D) (status : Status) (failed : Type 0) (journal : List Committed) (given : List Given) → journal ≡ [] → given ≡ []
      → ¬ (status ≡ Done) → (has_checked status ≡ true → InGrammar bytes) → TellsBad bytes status
      → (failed → status ≡ DiskFault) → TablesStay now image can_leave left_at old new failed → RunsFrom tells now image can_leave left_at bytes found old new status journal given
  runs_nothing starts bytes found old new status failed journal given none no_reply not_done checked bad so stay =
      runs_shown bytes found old new status [] journal [] given none no_reply (nothing_ran starts bytes found old new status failed not_done checked bad so stay)

module _ {D : Type 0} (tells : Type 0) (means : Ghosts D) where
  -- a runner that was made of a store keeps what the store keeps
  pub keeps_at_start : (runner : Runner) (store : Store) → running_of runner ≡ record { tables = store.tables; inside = None; journal = []; given = [] } → runner.store ≡ store
      → (since : ℕ) (base : Image) (found : Tables) (disk : D) → KeepsStore tells means since base found [] [] store disk → KeepsRun tells means since base found runner disk
  keeps_at_start runner store fresh same since base found disk keeps =
      subst (λ (s : Store). KeepsStore tells means since base found (done_of runner.journal.items) (effects_of runner.inside) s disk) (sym same)
      (subst (λ (r : Running). KeepsStore tells means since base found (done_of r.journal) (effects_of r.inside) store disk) (sym fresh) keeps)

  -- A run over the store that was made of a disk: the tables that were found are the store's.
  pub runs_over : RunLaws → ((d : D) (m : ℕ) (c : Image) → means.left_at d m c → tells) → (bytes : List ℕ) (store : Store) (old opened new : D) (status : Status) (journal : List Committed) (given : List Given)
      → InGrammar bytes → TellsBad bytes status
      → ((T : Tables) → tells → Recovers (means.image old) T → HasFound tells means store old opened T)
      → ((script : Script) → IsScriptOf bytes script → HasRun script store.tables status journal given)
      → HaveMoments (means.now new) journal
      → ((since : ℕ) (base : Image) (found : Tables) → KeepsStore tells means since base found [] [] store opened → Survives means.now means.left_at since found (done_of journal) new)
      → (status ≡ Done → (since : ℕ) (base : Image) (found : Tables) → KeepsStore tells means since base found [] [] store opened
      → (c : Image) → means.can_leave new c → Recovers c (tables_from found (done_of journal)))
      → RunsFrom tells means.now means.image means.can_leave means.left_at bytes store.tables old new status journal given
  runs_over laws left_tells bytes store old opened new status journal given grammar bad finds has_run moments survives at_end =
      let script = laws.scripts bytes grammar in
      let ran = has_run script.0 script.1 in
      record {
        legal = ran.legal;
        serves = record {
          matches = λ s is. (has_run s is).matches;
          replies = λ s is. (has_run s is).replies;
          answered = λ done s is. (has_run s is).answered done;
          ran = λ _. grammar;
          unread = inr grammar;
          bad = bad;
        };
        moments = moments;
        opened = λ t T recovers. inr (finds T t recovers).tables;
        any_moment = λ bound. each-since means.now means.image means.can_leave means.left_at old new _ (λ m c. (T : Tables) → Recovers (means.image old) T → LeavesFirst T journal m c) (λ m c since left T recovers.
            let found = finds T (left_tells new m c left) recovers in
            leaves_first laws.covered store.tables T journal m c found.tables ran.timely
            (survives m (means.image old) store.tables (found.keeps m since) bound m c (omega arith) left));
        at_end = λ done t T recovers c leave.
            let found = finds T t recovers in
            subst (Recovers c) (sym (ap (λ (F : Tables). fold_journal F journal) found.tables ∙ sym (laws.leave store.tables journal)))
            (at_end done (means.now old + 1) (means.image old) store.tables (found.keeps (means.now old + 1) (inr (omega arith))) c leave);
      }
