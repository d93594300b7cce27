use Rattle.std.proofs.Common.{◌≡◌, ◌++◌, length}
use Rattle.ids_model.specs.Slots.{assign}
use Rattle.ids_model.specs.Recovered.{all_taken_back, of_tx, others}
use Rattle.fast_recovery.proofs.replay.take_back_of.Given as goal

abbrev pub invariant-changes : goal.invariant-changes
invariant-changes l = record {
  back : assign l.slots (all_taken_back (of_tx l.tx l.standing)) ≡ assign l.initial.slots (all_taken_back (of_tx l.tx l.initial.standing));
  left : l.left.items ++ others l.tx l.standing ≡ others l.tx l.initial.standing;
}

abbrev pub decreases-changes : goal.decreases-changes
decreases-changes l = length l.standing
