use Rattle.std.proofs.Common.{arith, refl}
use Rattle.sql_reader.proofs.Lines.{first_of}
use Rattle.sql_reader.proofs.script.first_line.Goals as goal
use Rattle.sql_reader.proofs.script.first_line.Goals.{then-loop-len-test+else-rest-len-ne10, else-loop-len-test}

pub returns-clause-first : goal.returns-clause-first
returns-clause-first c = (first_of c.args.rest.now _ c.loop-len.len c.loop-len.invariant.0 c.loop-len.invariant.1 (λ i. elim c.loop-len-test.branch [ then-loop-len-test+else-rest-len-ne10 w ↦ w.if-rest-len-ne10.false | else-loop-len-test w ↦ absurd (omega (arith, w.loop-len-test.false, i)) ]) refl).first
