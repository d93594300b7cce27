use Rattle.std.proofs.Common.{length}
use Rattle.sql_reader.specs.declared.place.Place.TheVariants as place
use Rattle.sql_reader.specs.Plans.{shape_items}
use Rattle.sql_reader.proofs.Ways.{Listing}
use Rattle.sql_reader.proofs.plan.shape.Given as goal

abbrev pub invariant-loop-more : goal.invariant-loop-more
invariant-loop-more l = Listing l.fn.reader l.reader (shape_items l.shape) l.more place.Next

abbrev pub decreases-loop-more : goal.decreases-loop-more
decreases-loop-more l = length l.reader.rest.now
