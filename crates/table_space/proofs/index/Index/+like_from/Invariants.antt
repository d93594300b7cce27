use Rattle.std.proofs.Common.{◌-◌, ◌^◌}
use Rattle.table_space.proofs.index.Index.+like_from.Given as goal

abbrev pub decreases-like_from : goal.decreases-like_from
decreases-like_from l = 2 ^ 64 - l.from
