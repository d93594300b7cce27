use Rattle.std.proofs.Common.{sym}
use Rattle.log_records.proofs.Kept.{left_is, are_left}
use Rattle.log_records.proofs.block_body.BlockBody.cursor.Goals as goal

pub invariant_of-result : goal.invariant_of-result
invariant_of-result c = are_left c.count.result c.record_bytes.result.now c.args.self.now.entries (sym c.count.ensures) c.record_bytes.ensures.each c.record_bytes.ensures.bytes

pub returns : goal.returns
returns c = left_is c.count.result c.record_bytes.result.now c.args.self.now.entries (sym c.count.ensures) c.record_bytes.ensures.each c.record_bytes.ensures.bytes
