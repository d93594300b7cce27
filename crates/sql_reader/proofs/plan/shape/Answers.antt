use Rattle.std.proofs.Common.{[]}
use Rattle.sql_reader.proofs.Ways.{went_none, went_column, pushed_one}
use Rattle.sql_reader.proofs.plan.shape.Goals as goal

pub loop-more-init : goal.loop-more-init
loop-more-init c = record {
  on = c.follows_first-more.ensures.on;
  at = c.follows_first-more.ensures.to;
  went = went_column c.args.reader.now c.args.reader.now c.first_column.new.reader c.follows_first-more.new.reader [] c.push.new.self c.first_column.result (went_none c.args.reader.now) c.first_column.ensures.went c.follows_first-more.ensures.went (pushed_one _ _ _ c.new-shape.ensures c.in_ok-push.ensures.ok);
}

pub loop-more-preserved : goal.loop-more-preserved
loop-more-preserved c = record {
  on = c.comma-more.ensures.on;
  at = c.comma-more.ensures.to;
  went = went_column c.args.reader.now c.loop-more.reader c.next_column.new.reader c.comma-more.new.self c.loop-more.shape c.push-in-loop-more.new.self c.next_column.result c.loop-more.invariant.went c.next_column.ensures.went c.comma-more.ensures.went c.in_ok-push-2.ensures.ok;
}
