use Rattle.std.proofs.Common.{sym, ◌∙◌, arith}
use Rattle.sql_reader.proofs.Steps.{word_reached, word_step, same_is, other_is}
use Rattle.sql_reader.proofs.reach.word_reach.Goals as goal
use Rattle.sql_reader.proofs.reach.word_reach.Goals.{then-loop-at-test+then-at-letters+else-small-letters, then-loop-at-test+else-at-letters, else-loop-at-test}

pub loop-at-preserved : goal.loop-at-preserved
loop-at-preserved c = (omega (arith, c.loop-at-test.true), omega (arith, c.if-at-letters.true), c.loop-at.invariant.2, word_step _ _ _ c.loop-at.invariant.3 c.loop-at-test.true c.if-at-letters.true ∙ same_is _ _ (sym c.small.ensures ∙ c.if-small-letters.true))

pub returns : goal.returns
returns c = word_reached c.args.word _ _ _ c.loop-at.invariant.2 c.loop-at.invariant.0 c.loop-at.invariant.1 c.loop-at.invariant.3 (λ i j. elim c.loop-at-test.branch [ then-loop-at-test+then-at-letters+else-small-letters w ↦ other_is _ _ (λ e. w.if-small-letters.false (w.small.ensures ∙ e)) | then-loop-at-test+else-at-letters w ↦ absurd (omega (arith, w.if-at-letters.false, j)) | else-loop-at-test w ↦ absurd (omega (arith, w.loop-at-test.false, i)) ])
