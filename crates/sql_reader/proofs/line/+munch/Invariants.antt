use Rattle.std.proofs.Common.{length}
use Rattle.sql_reader.proofs.line.+munch.Given as goal

abbrev pub decreases-munch : goal.decreases-munch
decreases-munch l = length l.rows.now
