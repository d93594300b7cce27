use Rattle.sql_reader.proofs.Steps.{signed_by}
use Rattle.sql_reader.proofs.reach.signed_reach.Goals as goal

pub returns : goal.returns
returns c = signed_by c.args.rest.now _ _ c.if-rest-ne45.false c.number_reach-at.ensures
