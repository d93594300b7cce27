-- The transactions of a journal after a commit, and the effects of the open one.
use Rattle.std.proofs.Common.{◌≡◌, ℕ, refl, ap, ◌∙◌, false, List, [], ◌∷◌, ◌++◌, Option, Some, None}
use Rattle.std.specs.Prelude.{is_some}
use Rattle.std.proofs.lemmas.List.{append-nil}
use Rattle.ids_model.specs.declared.effect.Effect.{Effect}
use Rattle.ids_model.specs.declared.journal.DoneStatement.{DoneStatement}
use Rattle.ids_model.specs.declared.journal.Committed.{Committed}
use Rattle.ids_model.specs.Served.{entry_now, entry_unanswered}
use Rattle.ids_engine.specs.Survival.{Done}
use Rattle.ids_engine.specs.Journals.{done_by, done_of, TransactionsJoin}
use Rattle.ids_server.specs.declared.runner.Transaction.{Transaction}
use Rattle.ids_server.specs.Running.{flushed_at, effects_of}

alone : (effects : List Effect) (moment : ℕ) → ¬ (effects ≡ []) → done_by effects (flushed_at effects moment) [] ≡ record { effects = effects; flushed = Some moment } ∷ []
alone [] moment some = absurd (some refl)
alone (e ∷ es) moment some = refl

-- an entry with effects, flushed
pub with_flush : TransactionsJoin → (J K : List Committed) (done : List DoneStatement) (effects : List Effect) (moment : ℕ) → ¬ (effects ≡ [])
    → K ≡ J ++ entry_now 1 done effects moment (flushed_at effects moment) ∷ [] → done_of K ≡ done_of J ++ record { effects = effects; flushed = Some moment } ∷ []
with_flush joins J K done effects moment some is =
    ap done_of is ∙ joins J (entry_now 1 done effects moment (flushed_at effects moment)) ∙ ap (λ (ds : List Done). done_of J ++ ds) (alone effects moment some)

alone_open : (effects : List Effect) → ¬ (effects ≡ []) → done_by effects None [] ≡ record { effects = effects; flushed = None } ∷ []
alone_open [] some = absurd (some refl)
alone_open (e ∷ es) some = refl

-- or not
pub without_flush : TransactionsJoin → (J K : List Committed) (done : List DoneStatement) (effects : List Effect) → ¬ (effects ≡ [])
    → K ≡ J ++ entry_unanswered 1 done effects None ∷ [] → done_of K ≡ done_of J ++ record { effects = effects; flushed = None } ∷ []
without_flush joins J K done effects some is =
    ap done_of is ∙ joins J (entry_unanswered 1 done effects None) ∙ ap (λ (ds : List Done). done_of J ++ ds) (alone_open effects some)

-- an entry without effects is none
pub with_nothing : TransactionsJoin → (J K : List Committed) (done : List DoneStatement) (moment : ℕ) → K ≡ J ++ entry_now 1 done [] moment None ∷ [] → done_of K ≡ done_of J
with_nothing joins J K done moment is = ap done_of is ∙ joins J (entry_now 1 done [] moment None) ∙ append-nil (done_of J)

-- where no transaction is open, there are no effects
pub none_inside : (i : Option Transaction) → is_some i ≡ false → effects_of i ≡ []
none_inside None is = refl
none_inside (Some t) is = cc
