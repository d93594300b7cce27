use Rattle.std.proofs.Common.{ap, ◌∙◌, [], ◌∷◌, Result, Ok, Err, OnOk}
use Rattle.log_records.specs.Entries.{Rollback}
use Rattle.ids_model.specs.Recovered.{State, run}
use Rattle.fast_recovery.proofs.TakingBack.{rolled}
use Rattle.fast_recovery.proofs.replay.Replay.roll_back.Goals as goal

both : {A E : Type 0} {P Q R : Type 0} (r : Result A E) → (P → Q → R) → OnOk r P → OnOk r Q → OnOk r R
both (Ok x) f p q = f p q
both (Err e) f p q = tt

pub returns : goal.returns
returns c =
    both c.take_back_of.result
    (λ p q. rolled (record { own = c.self.inside.owners; slots = c.self.inside.slots; standing = c.self.inside.standing }) c.args.tx _ _ p q
    ∙ ap (λ (s : State). run s (Rollback c.args.tx ∷ [])) c.self.view_is)
    c.take_back_of.ensures.slots c.take_back_of.ensures.standing
