use Rattle.std.proofs.Common.{◌-◌, ◌^◌}
use Rattle.table_space.proofs.index.Index.+transaction_with.Given as goal

abbrev pub decreases-transaction_with : goal.decreases-transaction_with
decreases-transaction_with l = 2 ^ 64 - l.from
