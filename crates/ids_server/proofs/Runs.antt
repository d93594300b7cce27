-- What a run of a script keeps from its start to its end.
use Rattle.std.proofs.Common.{◌≡◌, ◌∙◌, refl, sym, ap, subst, ℕ, suc, zero, ◌+◌, ◌<◌, List, [], ◌∷◌, ◌++◌, length, drop, get_or, Option, Some, None, ◌⊎◌, ⊎_elim, length-append, arith}
use Rattle.ids_base.specs.declared.plan.Plan.{Plan}
use Rattle.ids_base.specs.declared.plan.Plan.TheVariants.{Data, Begin, Commit, Rollback}
use Rattle.ids_base.specs.declared.status.Status.{Status}
use Rattle.ids_base.specs.declared.status.Status.TheVariants.{Done}
use Rattle.ids_model.specs.declared.journal.Committed.{Committed}
use Rattle.ids_model.specs.declared.journal.Given.{Given}
use Rattle.ids_model.specs.Matches.{Script, plans_of, replies_to}
use Rattle.ids_model.specs.Moves as moves
use Rattle.ids_model.specs.Moves.{session_now}
use Rattle.ids_model.specs.Tables.{Tables}
use Rattle.ids_model.specs.Served.{IsNext}
use Rattle.sql_reader.specs.Lines.{sessions, texts_of, statements_of, statements_in}
use Rattle.sql_reader.specs.Plans.{IsPlanOf, Each, IsScriptOf}
use Rattle.ids_server.specs.declared.runner.Transaction.{Transaction}
use Rattle.ids_server.specs.Running.{Running, data_by, begin_by, commit_by, rollback_by, Steps, Fails, IsRunning, HasEnded, FailuresEnd, RunsEnd}
use Rattle.ids_server.specs.Serving.{AllAnswered, HasRun}

-- no text has two plans
abbrev pub OnePlan : Type 0
OnePlan = (text : List ℕ) (p q : Plan) → IsPlanOf text p → IsPlanOf text q → p ≡ q

-- the plans of the one session
each_of : (ts : List (List ℕ)) (script : Script) → Each (Each (Each IsPlanOf)) (sessions ts ∷ []) script → Each IsPlanOf ts (plans_of script 1)
each_of [] ([] ∷ []) each = tt
each_of [] ((s ∷ ss) ∷ ps) each = absurd each.0
each_of [] ([] ∷ p ∷ ps) each = absurd each.1
each_of [] [] each = absurd each
each_of (t ∷ ts) [] each = absurd each
each_of (t ∷ ts) ([] ∷ ps) each = absurd each.0
each_of (t ∷ ts) ((s ∷ []) ∷ []) each = each.0.0
each_of (t ∷ ts) ((s ∷ u ∷ ss) ∷ ps) each = absurd each.0.1
each_of (t ∷ ts) ((s ∷ []) ∷ p ∷ ps) each = absurd each.1

-- no other session has statements
others_of : (ts : List (List ℕ)) (script : Script) (n : ℕ) → Each (Each (Each IsPlanOf)) (sessions ts ∷ []) script → plans_of script (suc (suc n)) ≡ []
others_of [] ([] ∷ []) n each = refl
others_of [] ((s ∷ ss) ∷ ps) n each = absurd each.0
others_of [] ([] ∷ p ∷ ps) n each = absurd each.1
others_of [] [] n each = absurd each
others_of (t ∷ ts) [] n each = absurd each
others_of (t ∷ ts) ([] ∷ ps) n each = absurd each.0
others_of (t ∷ ts) ((s ∷ []) ∷ []) n each = refl
others_of (t ∷ ts) ((s ∷ u ∷ ss) ∷ ps) n each = absurd each.0.1
others_of (t ∷ ts) ((s ∷ []) ∷ p ∷ ps) n each = absurd each.1

texts_same : (ts : List (List ℕ)) → statements_in (sessions ts ∷ []) 0 0 ≡ ts
texts_same [] = refl
texts_same (t ∷ ts) = refl

-- the texts of the session have its plans
pub plans_each : (texts : List (List (List (List ℕ)))) (bytes : List ℕ) (script : Script) → texts ≡ texts_of bytes → IsScriptOf bytes script → Each IsPlanOf (statements_in texts 0 0) (plans_of script 1)
plans_each texts bytes script is each =
    subst (λ ts. Each IsPlanOf ts (plans_of script 1)) (sym (ap (λ t. statements_in t 0 0) is ∙ texts_same (statements_of bytes))) (each_of (statements_of bytes) script each)

-- a text that stands at a place has the plan that stands there
plan_there : OnePlan → (texts : List (List ℕ)) (plans : List Plan) (i : ℕ) (plan : Plan) → i < length texts → IsPlanOf (get_or texts i []) plan → Each IsPlanOf texts plans
    → (ps : List Plan) × (drop i plans ≡ plan ∷ ps)
plan_there one [] plans i plan lt is each = absurd (omega arith)
plan_there one (t ∷ ts) [] i plan lt is each = absurd each
plan_there one (t ∷ ts) (p ∷ ps) zero plan lt is each = (ps, ap (λ q. q ∷ ps) (one t p plan each.0 is))
plan_there one (t ∷ ts) (p ∷ ps) (suc i) plan lt is each = plan_there one ts ps i plan (omega arith) is each.1

-- the statement that stands at a place is the next
pub next_there : OnePlan → (script : Script) (given : List Given) (texts : List (List ℕ)) (i : ℕ) (plan : Plan)
    → i < length texts → IsPlanOf (get_or texts i []) plan → length given ≡ i → Each IsPlanOf texts (plans_of script 1) → IsNext script 1 given plan
next_there one script given texts i plan lt at count each =
    let there = plan_there one texts (plans_of script 1) i plan lt at each in
    (there.0, ap (λ k. drop k (plans_of script 1)) count ∙ there.1)

-- one reply more
pub count_more : (given after : List Given) (last : Given) (i : ℕ) → after ≡ given ++ last ∷ [] → length given ≡ i → length after ≡ i + 1
count_more given after last i is count = ap length is ∙ length-append given (last ∷ []) ∙ ap (λ n. n + 1) count

drop-empty : {A : Type 0} → (k : ℕ) (xs : List A) → xs ≡ [] → drop k xs ≡ []
drop-empty zero xs is = is
drop-empty (suc k) [] is = refl
drop-empty (suc k) (x ∷ xs) is = cc

drop-all : {A : Type 0} → (xs : List A) → drop (length xs) xs ≡ []
drop-all [] = refl
drop-all (x ∷ xs) = drop-all xs

length_each : (texts : List (List ℕ)) (plans : List Plan) → Each IsPlanOf texts plans → length texts ≡ length plans
length_each [] [] each = refl
length_each [] (p ∷ ps) each = absurd each
length_each (t ∷ ts) [] each = absurd each
length_each (t ∷ ts) (p ∷ ps) each = ap suc (length_each ts ps each.1)

-- at the end nothing is left of any session
left_at : moves.SessionsCount → (bytes : List ℕ) (script : Script) (given : List Given) → IsScriptOf bytes script → replies_to 1 given ≡ given → length given ≡ length (plans_of script 1)
    → (n : ℕ) → (session_now script given n).left ≡ []
left_at counts bytes script given each alone count zero = (counts script given 0).1 ∙ drop-empty (length (replies_to 0 given)) (plans_of script 0) refl
left_at counts bytes script given each alone count (suc zero) =
    (counts script given 1).1 ∙ ap (λ k. drop k (plans_of script 1)) (ap length alone ∙ count) ∙ drop-all (plans_of script 1)
left_at counts bytes script given each alone count (suc (suc n)) =
    (counts script given (suc (suc n))).1 ∙ drop-empty (length (replies_to (suc (suc n)) given)) (plans_of script (suc (suc n))) (others_of (statements_of bytes) script n each)

-- and all statements are answered
pub all_answered : moves.SessionsCount → moves.AllAnswered → (bytes : List ℕ) (script : Script) (found : Tables) (moment : ℕ) (r : Running) (texts : List (List ℕ)) → IsScriptOf bytes script
    → Each IsPlanOf texts (plans_of script 1) → length r.given ≡ length texts → IsRunning script found moment r → AllAnswered script r.given
all_answered counts law bytes script found moment r texts is each count running = λ n.
    (law script r.journal r.given n running.served.matches).0
    (left_at counts bytes script r.given is running.served.alone (count ∙ length_each texts (plans_of script 1) each) n)

-- what a run leaves
pub has_run : (script : Script) (found : Tables) (status : Status) (journal : List Committed) (given : List Given) → (status ≡ Done → AllAnswered script given)
    → HasEnded script found journal given → HasRun script found status journal given
has_run script found status journal given answered ended = record {
  matches = ended.matches;
  legal = ended.legal;
  replies = ended.replies;
  timely = ended.timely;
  answered = answered;
}

-- what it leaves where nothing is given or committed behind
pub run_ends : RunsEnd → (script : Script) (found : Tables) (moment : ℕ) (status : Status) (r : Running) (journal : List Committed) (given : List Given) → IsRunning script found moment r
    → (status ≡ Done → AllAnswered script r.given) → journal ≡ r.journal → given ≡ r.given → HasRun script found status journal given
run_ends ends script found moment status r journal given running answered same alike =
    subst (λ js. HasRun script found status js given) (sym same)
    (subst (λ gs. HasRun script found status r.journal gs) (sym alike) (has_run script found status r.journal r.given answered (ends script found moment r running)))

-- a step gives one reply
pub steps_give : (moment : ℕ) (r new : Running) (plan : Plan) → Steps moment r plan new → (last : Given) × (new.given ≡ r.given ++ last ∷ [])
steps_give moment r new (Data s) steps = by r.inside steps.3
  where
    by : (i : Option Transaction) → new ≡ data_by moment r i s steps.0 steps.1 → (last : Given) × (new.given ≡ r.given ++ last ∷ [])
    by None is = (_, ap (λ (x : Running). x.given) is)
    by (Some t) is = (_, ap (λ (x : Running). x.given) is)
steps_give moment r new Begin is = by r.inside is
  where
    by : (i : Option Transaction) → new ≡ begin_by r i → (last : Given) × (new.given ≡ r.given ++ last ∷ [])
    by None is = (_, ap (λ (x : Running). x.given) is)
    by (Some t) is = (_, ap (λ (x : Running). x.given) is)
steps_give moment r new Commit is = by r.inside is
  where
    by : (i : Option Transaction) → new ≡ commit_by moment r i → (last : Given) × (new.given ≡ r.given ++ last ∷ [])
    by None is = (_, ap (λ (x : Running). x.given) is)
    by (Some t) is = (_, ap (λ (x : Running). x.given) is)
steps_give moment r new Rollback is = by r.inside is
  where
    by : (i : Option Transaction) → new ≡ rollback_by r i → (last : Given) × (new.given ≡ r.given ++ last ∷ [])
    by None is = (_, ap (λ (x : Running). x.given) is)
    by (Some t) is = (_, ap (λ (x : Running). x.given) is)

-- what is left where a statement failed
pub ends_by : RunsEnd → FailuresEnd → (script : Script) (found : Tables) (moment : ℕ) (r : Running) (P : Plan → Type 0) (journal : List Committed) (given : List Given)
    → IsRunning script found moment r → ((plan : Plan) → P plan → IsNext script 1 r.given plan)
    → (journal ≡ r.journal) ⊎ ((plan : Plan) × P plan × Fails r plan journal) → given ≡ r.given → HasEnded script found journal given
ends_by ends fails script found moment r P journal given running is_next failed same =
    subst (λ gs. HasEnded script found journal gs) (sym same)
    (⊎_elim (λ kept. subst (λ js. HasEnded script found js r.given) (sym kept) (ends script found moment r running))
    (λ f. fails script found moment r f.0 journal running (is_next f.0 f.1) f.2) failed)
