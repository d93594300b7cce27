use Rattle.sql_reader.proofs.Table.{verdict_of}
use Rattle.sql_reader.proofs.line.judge_line.Goals as goal

pub returns : goal.returns
returns c = verdict_of c.args.bytes.now c.judge.result c.judge.ensures
