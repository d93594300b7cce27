use Rattle.std.proofs.Common.{sym, ◌∙◌, ap, subst, arith, get_or, ◌+◌}
use Rattle.sql_reader.specs.Tokens.{is_live}
use Rattle.sql_reader.proofs.Steps.{Scanned, text_more, text_reached}
use Rattle.sql_reader.proofs.reach.text_reach.Goals as goal

pub returns-then-not-text_lives : goal.returns-then-not-text_lives
returns-then-not-text_lives c = text_reached c.args.rest.now c.loop-at.at (get_or c.args.rest.now 0 0) c.loop-at.state _ c.loop-at.invariant.0 c.loop-at.invariant.1 c.loop-at.invariant.2 c.loop-at.invariant.3
    (λ i. ap is_live (sym c.text_next-next.ensures) ∙ sym c.text_lives.ensures ∙ c.if-not-text_lives.true) c.text_done.ensures

pub loop-at-preserved : goal.loop-at-preserved
loop-at-preserved c = (
  omega (arith, c.loop-at-test.true),
  c.loop-at.invariant.1,
  subst (λ v. Scanned c.args.rest.now (c.loop-at.at + 1) (get_or c.args.rest.now 0 0) v) (sym c.text_next-next.ensures) (text_more c.args.rest.now c.loop-at.at (get_or c.args.rest.now 0 0) c.loop-at.state c.loop-at-test.true c.loop-at.invariant.2),
  sym c.text_lives.ensures ∙ c.if-not-text_lives.false,
)
