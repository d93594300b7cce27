use Rattle.sql_reader.proofs.Ways.{went_value}
use Rattle.sql_reader.proofs.plan.row.Goals as goal

pub loop-more-preserved : goal.loop-more-preserved
loop-more-preserved c = record {
  on = c.comma-more.ensures.on;
  at = c.comma-more.ensures.to;
  went = went_value c.args.reader.now c.loop-more.reader c.value.new.self c.comma-more.new.self c.loop-more.row c.push.new.self c.in_ok-value.field-0 c.loop-more.invariant.went c.in_ok-value.ensures.went c.comma-more.ensures.went c.in_ok-push.ensures.ok;
}
