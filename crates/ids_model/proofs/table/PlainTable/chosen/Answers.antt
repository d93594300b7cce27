use Rattle.std.proofs.Common.{◌∙◌, sym, ap, Result, Ok, Err, IfOk}
use Rattle.ids_model.specs.Tables.{Table}
use Rattle.ids_model.specs.Rows.{key_named}
use Rattle.ids_model.proofs.FoundByKey.{found-by-key}
use Rattle.ids_model.proofs.table.PlainTable.chosen.Goals as goal

also : {X E : Type 0} {P Q : X → Type 0} → ((x : X) → P x → Q x) → (r : Result X E) → IfOk r P → IfOk r Q
also f (Ok x) p = f x p
also f (Err e) p = tt

pub returns-in-Some : goal.returns-in-Some
returns-in-Some c =
    also (λ es is. is ∙ found-by-key c.args.self.now.shape c.args.terms.now c.args.self.now.rows c.in-Some.key.now c.requires.keyed (sym (c.in-Some.ensures ∙ ap (λ l. key_named l c.args.terms.now) c.as_slice.ensures ∙ ap (λ (t : Table). key_named t.shape c.args.terms.now) c.self.view_is))) c.one_chosen.result c.one_chosen.ensures
