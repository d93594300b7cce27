use Rattle.std.proofs.Common.{◌≡◌, length}
use Rattle.ids_model.specs.Slots.{assign}
use Rattle.ids_model.specs.Recovered.{all_taken_back}
use Rattle.fast_recovery.proofs.replay.take_all_back.Given as goal

abbrev pub invariant-changes : goal.invariant-changes
invariant-changes l = assign l.slots (all_taken_back l.standing) ≡ assign l.initial.slots (all_taken_back l.initial.standing)

abbrev pub decreases-changes : goal.decreases-changes
decreases-changes l = length l.standing
