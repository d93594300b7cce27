-- One session that runs a script over a store, statement by statement.
use Rattle.std.specs.Prelude.{◌≡◌, ◌⊎◌, ◌≤◌, ℕ, true, List, [], ◌∷◌, ◌++◌, Option, Some, None}
use Rattle.std.specs.List.{AllByRecursion}
use Rattle.ids_base.specs.declared.plan.DataStatement.{DataStatement}
use Rattle.ids_base.specs.declared.plan.Plan.{Plan}
use Rattle.ids_base.specs.declared.plan.Plan.TheVariants.{Data, Begin, Commit, Rollback}
use Rattle.ids_base.specs.declared.reply.Reply.{Reply}
use Rattle.ids_base.specs.declared.reply.Reply.TheVariants.{Begun, Committed as CommittedReply, RolledBack, NotInTx, InTx}
use Rattle.ids_model.specs.declared.effect.Effect.{Effect}
use Rattle.ids_model.specs.declared.journal.DoneStatement.{DoneStatement}
use Rattle.ids_model.specs.declared.journal.Committed.{Committed}
use Rattle.ids_model.specs.declared.journal.Given.{Given}
use Rattle.ids_model.specs.Tables.{Tables, apply_all}
use Rattle.ids_model.specs.Meaning.{one}
use Rattle.ids_model.specs.Legal.{is_no_space, fold_journal, IsLegal}
use Rattle.ids_model.specs.Undone.{undo_all, ArePast}
use Rattle.ids_model.specs.Matches.{Script, Work, Outside, Inside, is_reply_to, Matches}
use Rattle.ids_model.specs.Answered.{Answered}
use Rattle.ids_model.specs.Served.{IsServed, given_now, done_now, entry_now, entry_unanswered, IsNext}
use Rattle.ids_engine.specs.Journals.{AreTimely, IsSettled}
use Rattle.ids_server.specs.declared.runner.Transaction.{Transaction}

-- the tables as they stand, the open transaction if there is one, the journal, and the replies that were given
pub record Running : Type 0 where
  pub tables : Tables
  pub inside : Option Transaction
  pub journal : List Committed
  pub given : List Given

-- the one session has number 1
abbrev pub answered : Running → Reply → Running
answered r reply = record r { given = r.given ++ given_now 1 r.journal r.given reply ∷ [] }

-- what has effects was flushed at this moment
abbrev pub flushed_at : List Effect → ℕ → Option ℕ
flushed_at [] moment = None
flushed_at (e ∷ es) moment = Some moment

-- an entry that is acknowledged at this moment, with the reply to its commit
abbrev pub committed : ℕ → Running → List DoneStatement → List Effect → Reply → Running
committed moment r done effects reply = answered (record r { journal = r.journal ++ entry_now 1 done effects moment (flushed_at effects moment) ∷ [] }) reply

-- the reply and the effects of a statement are those of its meaning, or it is answered that there is no room
abbrev pub IsOutcome : Tables → DataStatement → Reply → List Effect → Type 0
IsOutcome T s reply effects =
    ((reply ≡ (one T s).reply) × (effects ≡ (one T s).effects)) ⊎ ((is_no_space reply ≡ true) × (is_reply_to s reply ≡ true) × (effects ≡ []))

-- a data statement with its outcome commits by itself, or joins the open transaction
abbrev pub data_by : ℕ → Running → Option Transaction → DataStatement → Reply → List Effect → Running
data_by moment r None s reply effects = committed moment (record r { tables = apply_all r.tables effects }) (done_now r.given s reply ∷ []) effects reply
data_by moment r (Some t) s reply effects = answered (record r {
  tables = apply_all r.tables effects;
  inside = Some (record { done = t.done ++ done_now r.given s reply ∷ []; effects = t.effects ++ effects });
}) reply

abbrev pub begin_by : Running → Option Transaction → Running
begin_by r None = answered (record r { inside = Some (record { done = []; effects = [] }) }) Begun
begin_by r (Some t) = answered r InTx

abbrev pub commit_by : ℕ → Running → Option Transaction → Running
commit_by moment r None = answered r NotInTx
commit_by moment r (Some t) = committed moment (record r { inside = None }) t.done t.effects CommittedReply

-- the open transaction, if there is one, is taken back
abbrev pub taken_back : Running → Option Transaction → Running
taken_back r None = r
taken_back r (Some t) = record r { tables = undo_all r.tables t.effects; inside = None }

abbrev pub rollback_by : Running → Option Transaction → Running
rollback_by r None = answered r NotInTx
rollback_by r (Some t) = answered (taken_back r (Some t)) RolledBack

-- one more statement, at this moment
abbrev pub Steps : ℕ → Running → Plan → Running → Type 0
Steps moment r (Data s) new = (reply : Reply) × (effects : List Effect) × IsOutcome r.tables s reply effects × (new ≡ data_by moment r r.inside s reply effects)
Steps moment r Begin new = new ≡ begin_by r r.inside
Steps moment r Commit new = new ≡ commit_by moment r r.inside
Steps moment r Rollback new = new ≡ rollback_by r r.inside

abbrev pub work_of : Option Transaction → Work
work_of None = Outside
work_of (Some t) = Inside t.done

abbrev pub effects_of : Option Transaction → List Effect
effects_of None = []
effects_of (Some t) = t.effects

-- What a step that fails does to the journal: nothing, or there is an entry whose commit is not answered: of the open transaction, or of a statement outside one.
abbrev pub IsUnanswered : Running → Option Transaction → Plan → List Committed → Type 0
IsUnanswered r None (Data s) journal =
    journal ≡ r.journal ++ entry_unanswered 1 (done_now r.given s (one r.tables s).reply ∷ []) (one r.tables s).effects None ∷ []
IsUnanswered r (Some t) (Data s) journal = ⊥
IsUnanswered r i Begin journal = ⊥
IsUnanswered r None Commit journal = ⊥
IsUnanswered r (Some t) Commit journal = journal ≡ r.journal ++ entry_unanswered 1 t.done t.effects None ∷ []
IsUnanswered r i Rollback journal = ⊥

abbrev pub Fails : Running → Plan → List Committed → Type 0
Fails r plan journal = (journal ≡ r.journal) ⊎ IsUnanswered r r.inside plan journal

-- What the run keeps up to a moment: the session is served from the tables that were found, what the open transaction changed was as its effects say, and each
-- entry was flushed in time.
pub record IsRunning (script : Script) (found : Tables) (moment : ℕ) (r : Running) : Type 0 where
  pub served : IsServed script 1 found r.journal r.given (work_of r.inside) (effects_of r.inside) r.tables
  pub past : ArePast (fold_journal found r.journal) (effects_of r.inside)
  pub timely : AreTimely r.journal
  pub settled : AllByRecursion (IsSettled moment) r.journal

-- what it leaves: the journal is a legal run of one thread from those tables, and with the replies it matches the script
pub record HasEnded (script : Script) (found : Tables) (journal : List Committed) (given : List Given) : Type 0 where
  pub matches : Matches script journal given
  pub legal : IsLegal found journal
  pub replies : Answered script found journal given
  pub timely : AreTimely journal

-- a statement that stands next in the script keeps this
abbrev pub StepsKeepRunning : Type 0
StepsKeepRunning = (script : Script) (found : Tables) (before moment : ℕ) (r new : Running) (plan : Plan)
    → IsRunning script found before r → before ≤ moment → IsNext script 1 r.given plan → Steps moment r plan new → IsRunning script found moment new

-- and so far as it was run, also where it fails
abbrev pub FailuresEnd : Type 0
FailuresEnd = (script : Script) (found : Tables) (moment : ℕ) (r : Running) (plan : Plan) (journal : List Committed)
    → IsRunning script found moment r → IsNext script 1 r.given plan → Fails r plan journal → HasEnded script found journal r.given

abbrev pub RunsEnd : Type 0
RunsEnd = (script : Script) (found : Tables) (moment : ℕ) (r : Running) → IsRunning script found moment r → HasEnded script found r.journal r.given

abbrev pub RunsStart : Type 0
RunsStart = (script : Script) (found : Tables) (moment : ℕ) → IsRunning script found moment (record { tables = found; inside = None; journal = []; given = [] })
