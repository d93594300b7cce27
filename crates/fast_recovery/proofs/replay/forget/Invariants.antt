use Rattle.std.proofs.Common.{◌≡◌, ◌++◌, length}
use Rattle.ids_model.specs.Recovered.{others}
use Rattle.fast_recovery.proofs.replay.forget.Given as goal

abbrev pub invariant-changes : goal.invariant-changes
invariant-changes l = l.left.items ++ others l.tx l.standing ≡ others l.tx l.initial.standing

abbrev pub decreases-changes : goal.decreases-changes
decreases-changes l = length l.standing
