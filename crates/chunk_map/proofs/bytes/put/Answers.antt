use Rattle.std.proofs.Common.{arith}
use Rattle.chunk_map.proofs.Numbers.{put_behind}
use Rattle.chunk_map.proofs.bytes.put.Goals as goal

pub returns : goal.returns
returns c = λ front long is. put_behind front c.args.bytes.now c.args.body.now c.copy_from_slice.new.self c.args.at _ long is c.requires c.copy_from_slice.ensures.after (omega arith)
