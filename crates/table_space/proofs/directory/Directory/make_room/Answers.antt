use Rattle.std.proofs.Common.{arith}
use Rattle.table_space.proofs.directory.Directory.make_room.Goals as goal

pub returns-in_ok-self-clause-room : goal.returns-in_ok-self-clause-room
returns-in_ok-self-clause-room c = omega (arith, c.in_ok-self.ensures.more, c.len.ensures.len, c.if-number-len.true, c.requires)
