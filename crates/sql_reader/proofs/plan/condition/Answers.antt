use Rattle.sql_reader.proofs.Ways.{went_on, went_condition, pushed_one}
use Rattle.sql_reader.proofs.plan.condition.Goals as goal

pub returns-clause-went : goal.returns-clause-went
returns-clause-went c = went_condition c.args.reader.now c.value.new.self c.push.new.self _ (pushed_one _ _ _ c.in_ok-condition.ensures c.in_ok-push.ensures.ok)
    (went_on c.args.reader.now c.only.new.self c.value.new.self _ _ c.only.ensures.went
    (went_on c.only.new.self c.name-column.new.self c.value.new.self _ _ c.name-column.ensures.went
    (went_on c.name-column.new.self c.only-2.new.self c.value.new.self _ _ c.only-2.ensures.went c.in_ok-value.ensures.went)))
