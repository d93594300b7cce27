use Rattle.std.proofs.Common.{arith}
use Rattle.table_space.proofs.MarkTrees.{power-double}
use Rattle.table_space.proofs.marks.power_from.Goals as goal

pub loop-width-preserved : goal.loop-width-preserved
loop-width-preserved c = (power-double c.loop-width.width c.loop-width.invariant.0, omega arith, omega arith)
