use Rattle.std.proofs.Common.{◌≡◌, ◌≤◌, ◌<◌, ℕ, IsSome, Some, nat_eq}
use Rattle.indexmap.specs.IndexMap.{get}
use Rattle.ids_base.specs.declared.lock.LockEntry.{LockEntry}
use Rattle.wait_graph.specs.declared.reached.Spot.{Spot}
use Rattle.wait_graph.specs.Reached.{IsAt, HasSpots}
use Rattle.wait_graph.proofs.reached.add_spots.Given as goal

abbrev pub invariant-loop-at : goal.invariant-loop-at
invariant-loop-at l = record {
  old_or_new : (a : ℕ) (s : Spot) → get nat_eq l.spots a ≡ Some s → HasSpots l.initial.spots l.line l.number l.first a s;
  all : (k : ℕ) (e : LockEntry) → l.first ≤ k → k < l.at → IsAt l.line k e → IsSome (get nat_eq l.spots e.thread);
}
