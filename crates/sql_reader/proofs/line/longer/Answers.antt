use Rattle.std.proofs.Common.{sym, ◌∙◌}
use Rattle.sql_reader.proofs.line.longer.Goals as goal
use Rattle.sql_reader.proofs.Rows.{keeps, broken_by, taken_by}

pub returns-then-at-others : goal.returns-then-at-others
returns-then-at-others c = keeps _ _ _ _ _ _ _ _ _ c.requires c.reach-at.ensures c.if-at-others.true

pub returns-then-is_whole : goal.returns-then-is_whole
returns-then-is_whole c = taken_by c.args.kind c.args.to c.args.more.now c.args.edge c.args.rest.now _ _ c.args.others.1 _ c.requires c.reach-at.ensures c.if-is_whole.true c.if-at-others.false (sym c.may_stand.ensures ∙ c.if-not-may_stand.false)

pub returns-then-at-others-2 : goal.returns-then-at-others-2
returns-then-at-others-2 c = broken_by c.args.kind c.args.to c.args.more.now c.args.edge c.args.rest.now _ _ c.args.others.1 _ c.requires c.reach-at.ensures c.if-is_whole.false c.if-at-others-2.true (sym c.may_stand.ensures ∙ c.if-not-may_stand.false)
