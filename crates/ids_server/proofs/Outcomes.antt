-- What a statement changes: nothing, one table or row that is new, or rows that go.
use Rattle.std.proofs.Common.{◌≡◌, ◌⊎◌, inl, inr, ⊎_elim, Bool, true, false, cond, refl, sym, ap, subst, ℕ, List, [], ◌∷◌, length, Option, Some, None, arith}
use Rattle.std.specs.Prelude.{slice_get, map}
use Rattle.std.specs.List.{AllByRecursion}
use Rattle.std.specs.FinMap.{get}
use Rattle.ids_base.specs.declared.value.Value.{Value}
use Rattle.ids_base.specs.declared.plan.DataStatement.{DataStatement}
use Rattle.ids_base.specs.declared.plan.DataStatement.TheVariants.{CreateTable, Insert, Select, Delete}
use Rattle.ids_base.specs.declared.reply.Reply.TheVariants.{NoSpace}
use Rattle.ids_model.specs.declared.effect.Effect.{Effect}
use Rattle.ids_model.specs.declared.outcome.Outcome.{Outcome}
use Rattle.ids_model.specs.Tables.{Row, Rows, Shape, Name, Tables, shape_at, rows_at}
use Rattle.ids_model.specs.Rows.{is_shape, is_row_of, is_good_condition}
use Rattle.ids_model.specs.Meaning.{insert, insert_new, chosen, gone, outcome, one}
use Rattle.ids_model.specs.Matches.{is_reply_to}
use Rattle.ids_engine.specs.declared.store.Changed.TheVariants as came
use Rattle.ids_engine.specs.Placing.{IsOneChange, TakesRow}
use Rattle.ids_server.specs.Runners.{Goes}

-- these effects of a statement are one alone, and the statement may be told that there is no room
record MakesOne (s : DataStatement) (es : List Effect) : Type 0 where
  effect : Effect
  are : es ≡ effect ∷ []
  is_one : IsOneChange effect
  may_lack : (rows pages : ℕ) → is_reply_to s (NoSpace rows pages) ≡ true

-- or each takes a row away, if there are any
abbrev Makes : DataStatement → List Effect → Type 0
Makes s es = MakesOne s es ⊎ AllByRecursion Goes es

either : (P : Outcome → Type 0) (b : Bool) (x y : Outcome) → P x → P y → P (cond b x y)
either P true x y p q = p
either P false x y p q = q

new_row : (n : Name) (row : Row) (k : Value) (new : Row) (before : Option Row) → Makes (Insert n row) (insert_new n k new before).effects
new_row n row k new None = inl (record { effect = _; are = refl; is_one = tt; may_lack = λ rows pages. refl })
new_row n row k new (Some r) = inr tt

inserts : (n : Name) (row : Row) (m : Rows) → Makes (Insert n row) (insert n row m).effects
inserts n [] m = inr tt
inserts n (k ∷ vs) m = new_row n (k ∷ vs) k (k ∷ vs) (get m k)

all_go : (n : Name) (es : List (Value × Row)) → AllByRecursion Goes (map (gone n) es)
all_go n [] = tt
all_go n (e ∷ es) = ((tt, tt), all_go n es)

makes : (s : DataStatement) (shape : Option Shape) (m : Rows) → Makes s (outcome s shape m).effects
makes (CreateTable n new) None m =
    either (λ (o : Outcome). Makes (CreateTable n new) o.effects) (is_shape new) _ _ (inl (record { effect = _; are = refl; is_one = tt; may_lack = λ rows pages. refl })) (inr tt)
makes (CreateTable n new) (Some old) m = inr tt
makes (Insert n row) None m = inr tt
makes (Insert n row) (Some shape) m = either (λ (o : Outcome). Makes (Insert n row) o.effects) (is_row_of shape row) _ _ (inserts n row m) (inr tt)
makes (Select n terms) None m = inr tt
makes (Select n terms) (Some shape) m = either (λ (o : Outcome). Makes (Select n terms) o.effects) (is_good_condition shape terms) _ _ (inr tt) (inr tt)
makes (Delete n terms) None m = inr tt
makes (Delete n terms) (Some shape) m =
    either (λ (o : Outcome). Makes (Delete n terms) o.effects) (is_good_condition shape terms) _ _ (inr (all_go n (chosen shape terms m))) (inr tt)

of_meaning : (T : Tables) (s : DataStatement) → Makes s (one T s).effects
of_meaning T (CreateTable n new) = makes (CreateTable n new) (shape_at T n) (rows_at T n)
of_meaning T (Insert n row) = makes (Insert n row) (shape_at T n) (rows_at T n)
of_meaning T (Select n terms) = makes (Select n terms) (shape_at T n) (rows_at T n)
of_meaning T (Delete n terms) = makes (Delete n terms) (shape_at T n) (rows_at T n)

made : (T : Tables) (s : DataStatement) (o : Outcome) → o ≡ one T s → Makes s o.effects
made T s o is = subst (λ (x : Outcome). Makes s x.effects) (sym is) (of_meaning T s)

-- effects that are not one alone take rows away
pub rows_go : (T : Tables) (s : DataStatement) (o : Outcome) → o ≡ one T s → ¬ (length o.effects ≡ 1) → AllByRecursion Goes o.effects
rows_go T s o is other = ⊎_elim (λ m. absurd (other (ap length m.are))) (λ all. all) (made T s o is)

-- one alone is the first
pub alone : (es : List Effect) (e : Effect) → length es ≡ 1 → Some e ≡ slice_get es 0 → es ≡ e ∷ []
alone [] e count first = cc
alone (f ∷ []) e count first = cc
alone (f ∷ g ∷ es) e count first = absurd (omega (arith, count))

-- it changes one slot
pub changes_one : (T : Tables) (s : DataStatement) (o : Outcome) (e : Effect) → o ≡ one T s → o.effects ≡ e ∷ [] → IsOneChange e
changes_one T s o e is are =
    ⊎_elim
    (λ m. subst IsOneChange (the_same m.effect (sym m.are)) m.is_one)
    (λ all. (subst (AllByRecursion Goes) are all).0.0)
    (made T s o is)
  where
    the_same : (f : Effect) → f ∷ [] ≡ o.effects → f ≡ e
    the_same f h = cc (h, are)

-- and where it is a row that goes there is always room, else the statement may be told that there is none
pub may_lack : (T : Tables) (s : DataStatement) (o : Outcome) (e : Effect) (rows pages : ℕ) → o ≡ one T s → o.effects ≡ e ∷ [] → (TakesRow e → came.NoSpace rows pages ≡ came.Done)
    → is_reply_to s (NoSpace rows pages) ≡ true
may_lack T s o e rows pages is are room =
    ⊎_elim
    (λ m. m.may_lack rows pages)
    (λ all. absurd (never (room (subst (AllByRecursion Goes) are all).0.1)))
    (made T s o is)
  where
    never : came.NoSpace rows pages ≡ came.Done → ⊥
    never h = cc
