use Rattle.std.proofs.Common.{get_or, sym, ◌∙◌, ap, arith, ◌+◌, ◌*◌, ◌-◌}
use Rattle.sql_reader.proofs.Steps.{number_reached, number_too_great, number_goes, number_value}
use Rattle.sql_reader.proofs.reach.number_reach.Goals as goal

pub returns-then-more-gt2147483647 : goal.returns-then-more-gt2147483647
returns-then-more-gt2147483647 c = number_reached _ _ c.loop-at.invariant.0 c.loop-at.invariant.1 (λ i. number_too_great _ _ c.loop-at.number c.loop-at.invariant.1 i c.loop-at.invariant.2 c.if-more-gt2147483647.true)

pub loop-at-preserved : goal.loop-at-preserved
loop-at-preserved c = (omega (arith, c.loop-at-test.true), number_goes _ _ c.loop-at.number c.loop-at.invariant.1 c.loop-at-test.true c.loop-at.invariant.2 (sym c.digit.ensures ∙ c.if-digit.true) c.if-more-gt2147483647.false, ap (λ n. n * 10 + (get_or c.args.rest.now c.loop-at.at 0 - 48)) c.loop-at.invariant.2 ∙ sym (number_value _ _ c.loop-at-test.true), c.if-more-gt2147483647.false)
