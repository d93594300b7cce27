-- The moments of a journal that grows.
use Rattle.std.proofs.Common.{◌≡◌, sym, subst, ⊎_elim, ℕ, ◌≤◌, List, [], ◌∷◌, ◌++◌, Option, Some, None, arith}
use Rattle.ids_base.specs.declared.plan.Plan.{Plan}
use Rattle.ids_base.specs.declared.plan.Plan.TheVariants.{Data, Begin, Commit, Rollback}
use Rattle.ids_model.specs.declared.effect.Effect.{Effect}
use Rattle.ids_model.specs.declared.journal.DoneStatement.{DoneStatement}
use Rattle.ids_model.specs.declared.journal.Committed.{Committed}
use Rattle.ids_model.specs.Served.{entry_now, entry_unanswered}
use Rattle.ids_server.specs.declared.runner.Transaction.{Transaction}
use Rattle.ids_server.specs.Moments.{IsUpTo, HasMoments, HaveMoments}
use Rattle.ids_server.specs.Running.{Running, flushed_at, data_by, begin_by, commit_by, rollback_by, Steps, Fails, IsUnanswered}

up_to : (a b : ℕ) (moment : Option ℕ) → a ≤ b → IsUpTo a moment → IsUpTo b moment
up_to a b None le is = tt
up_to a b (Some at) le is = omega (arith, le, is)

-- what has no moment behind one has none behind a later one
pub later : (a b : ℕ) (journal : List Committed) → a ≤ b → HaveMoments a journal → HaveMoments b journal
later a b [] le all = tt
later a b (c ∷ cs) le all = (record { acked = up_to a b c.acked le all.0.acked; flushed = up_to a b c.flushed le all.0.flushed; in_time = all.0.in_time }, later a b cs le all.1)

one_more : (m : ℕ) (journal : List Committed) (c : Committed) → HaveMoments m journal → HasMoments m c → HaveMoments m (journal ++ c ∷ [])
one_more m [] c all is = (is, tt)
one_more m (d ∷ ds) c all is = (all.0, one_more m ds c all.1 is)

-- an entry that is acknowledged and flushed at this moment
now : (m : ℕ) (done : List DoneStatement) (effects : List Effect) → HasMoments m (entry_now 1 done effects m (flushed_at effects m))
now m done [] = record { acked = omega arith; flushed = tt; in_time = λ unbuffered some. absurd (omega (arith, some)) }
now m done (e ∷ es) = record { acked = omega arith; flushed = omega arith; in_time = λ unbuffered some. omega arith }

-- an entry that is not acknowledged, and not known to be flushed
unanswered : (m : ℕ) (done : List DoneStatement) (effects : List Effect) → HasMoments m (entry_unanswered 1 done effects None)
unanswered m done effects = record { acked = tt; flushed = tt; in_time = λ unbuffered some. tt }

by_journal : (m : ℕ) (js ks : List Committed) → js ≡ ks → HaveMoments m ks → HaveMoments m js
by_journal m js ks is all = subst (HaveMoments m) (sym is) all

-- a step at a moment gives its entry no moment behind it
pub steps_have_moments : (moment : ℕ) (r new : Running) (plan : Plan) → HaveMoments moment r.journal → Steps moment r plan new → HaveMoments moment new.journal
steps_have_moments moment r new (Data s) all steps = subst (λ (x : Running). HaveMoments moment x.journal) (sym steps.3) (by r.inside)
  where
    by : (i : Option Transaction) → HaveMoments moment (data_by moment r i s steps.0 steps.1).journal
    by None = one_more moment r.journal _ all (now moment _ steps.1)
    by (Some t) = all
steps_have_moments moment r new Begin all is = subst (λ (x : Running). HaveMoments moment x.journal) (sym is) (by r.inside)
  where
    by : (i : Option Transaction) → HaveMoments moment (begin_by r i).journal
    by None = all
    by (Some t) = all
steps_have_moments moment r new Commit all is = subst (λ (x : Running). HaveMoments moment x.journal) (sym is) (by r.inside)
  where
    by : (i : Option Transaction) → HaveMoments moment (commit_by moment r i).journal
    by None = all
    by (Some t) = one_more moment r.journal _ all (now moment _ t.effects)
steps_have_moments moment r new Rollback all is = subst (λ (x : Running). HaveMoments moment x.journal) (sym is) (by r.inside)
  where
    by : (i : Option Transaction) → HaveMoments moment (rollback_by r i).journal
    by None = all
    by (Some t) = all

unanswered_have : (m : ℕ) (r : Running) (i : Option Transaction) (plan : Plan) (journal : List Committed) → HaveMoments m r.journal → IsUnanswered r i plan journal → HaveMoments m journal
unanswered_have m r None (Data s) journal all is = by_journal m journal _ is (one_more m r.journal _ all (unanswered m _ _))
unanswered_have m r (Some t) (Data s) journal all is = absurd is
unanswered_have m r None Begin journal all is = absurd is
unanswered_have m r (Some t) Begin journal all is = absurd is
unanswered_have m r None Commit journal all is = absurd is
unanswered_have m r (Some t) Commit journal all is = by_journal m journal _ is (one_more m r.journal _ all (unanswered m _ _))
unanswered_have m r None Rollback journal all is = absurd is
unanswered_have m r (Some t) Rollback journal all is = absurd is

-- nor does a step that fails
pub failures_have_moments : (m : ℕ) (r : Running) (plan : Plan) (journal : List Committed) → HaveMoments m r.journal → Fails r plan journal → HaveMoments m journal
failures_have_moments m r plan journal all failed =
    ⊎_elim (λ same. by_journal m journal r.journal same all) (λ more. unanswered_have m r r.inside plan journal all more) failed
