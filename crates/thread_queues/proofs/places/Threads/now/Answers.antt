use Rattle.std.proofs.Common.{subst}
use Rattle.thread_queues.specs.Placed.{IsPlaced}
use Rattle.thread_queues.specs.Kept.{placed_of}
use Rattle.thread_queues.proofs.Counting.{placed_of-counted}
use Rattle.thread_queues.proofs.places.Threads.now.Goals as goal

pub returns-clause-placed : goal.returns-clause-placed
returns-clause-placed c = subst IsPlaced c.self.view_is (placed_of-counted (placed_of c.self.inside) c.self.invariant.counted)
