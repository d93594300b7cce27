use Rattle.std.proofs.Common.{ap, ◌++◌, []}
use Rattle.sql_reader.proofs.Ways.{went_as, went_on, column_end_says}
use Rattle.sql_reader.proofs.plan.follows_first.Goals as goal

pub returns-in-Word-clause-went : goal.returns-in-Word-clause-went
returns-in-Word-clause-went c = went_as _ _ _ _ (ap (λ v. v ++ []) (column_end_says c.args.reader.now.place c.next.result.kind c.next.new.self.place c.next.result.text.now c.requires.at c.next.ensures.stands)) (went_on c.args.reader.now c.next.new.self c.comma.new.self _ _ c.next.ensures.went (went_on c.next.new.self c.only.new.self c.comma.new.self _ _ c.only.ensures.went c.comma.ensures.went))
