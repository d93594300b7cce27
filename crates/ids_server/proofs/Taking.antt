-- Rows that are taken away one after another, and a store whose transaction is closed.
use Rattle.std.proofs.Common.{◌≡◌, ◌∙◌, sym, ap, subst, ℕ, ◌+◌, ◌<◌, suc, add-one, List, [], ◌∷◌, length, drop, get_or}
use Rattle.std.proofs.Math.Seq.{drop-cons}
use Rattle.ids_base.specs.declared.plan.DataStatement.{DataStatement}
use Rattle.ids_base.specs.declared.reply.Reply.TheVariants.{NoSpace}
use Rattle.ids_model.specs.declared.effect.Effect.{Effect}
use Rattle.ids_model.specs.Meaning.{one}
use Rattle.ids_engine.specs.declared.store.Store.{Store}
use Rattle.ids_engine.specs.declared.store.Changed.{Changed}
use Rattle.ids_engine.specs.declared.store.Changed.TheVariants as came
use Rattle.ids_engine.specs.Placing.{IsOwnerFor}
use Rattle.ids_engine.specs.Stores.{OnDone, OnNoSpace}
use Rattle.ids_server.specs.Runners.{IsFullFor, HasNoRoom}

-- the effect at a place stands before those behind it
pub next_left : (es : List Effect) (i : ℕ) (e : Effect) → i < length es → e ≡ get_or es i e → drop i es ≡ e ∷ drop (i + 1) es
next_left es i e lt is = drop-cons es i e lt ∙ ap (λ x. x ∷ drop (suc i) es) (sym is) ∙ ap (λ k. e ∷ drop k es) (sym (add-one i))

-- what holds of a change that was done
pub on_done : (change : Changed) (P : Type 0) → change ≡ came.Done → OnDone change P → P
on_done change P is holds = subst (λ x. OnDone x P) is holds

-- and of one that there was no room for
pub on_no_space : (change : Changed) (P : ℕ → ℕ → Type 0) (rows pages : ℕ) → change ≡ came.NoSpace rows pages → OnNoSpace change P → P rows pages
on_no_space change P rows pages is holds = subst (λ x. OnNoSpace x P) is holds

-- a statement that was told that there is no room
pub no_room : (store : Store) (statement : DataStatement) (effect : Effect) (r p rows pages : ℕ) → NoSpace r p ≡ NoSpace rows pages → (one store.tables statement).effects ≡ effect ∷ []
    → ((owner : ℕ × ℕ) → IsOwnerFor store.tables store.numbers effect owner → IsFullFor store effect owner r p) → HasNoRoom store statement rows pages
no_room store statement effect r p rows pages is only full =
    let slots : r ≡ rows = cc in
    let owned : p ≡ pages = cc in
    subst (λ (x : ℕ). HasNoRoom store statement x pages) slots (subst (λ (x : ℕ). HasNoRoom store statement r x) owned (record { effect = effect; alone = only; full = full }))
