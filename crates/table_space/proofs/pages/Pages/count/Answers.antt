use Rattle.std.proofs.Common.{◌+◌, ap, arith}
use Rattle.std.specs.List.{count_by}
use Rattle.table_space.specs.Owners.{is_own}
use Rattle.table_space.proofs.OwnedPages.{count-between}
use Rattle.table_space.proofs.pages.Pages.count.Goals as goal

pub overflow_sub-result : goal.overflow_sub-result
overflow_sub-result c =
    let n = count-between c.self.inside.owners.items c.self.inside.owned.items c.args.table (c.len.result + 1) c.count_below.result c.count_below-2.result c.self.invariant.owned (omega arith) c.count_below.ensures c.count_below-2.ensures in
    omega (arith, n)

pub returns-clause-counted : goal.returns-clause-counted
returns-clause-counted c =
    let n = count-between c.self.inside.owners.items c.self.inside.owned.items c.args.table (c.len.result + 1) c.count_below.result c.count_below-2.result c.self.invariant.owned (omega arith) c.count_below.ensures c.count_below-2.ensures in
    omega (arith, n, ap (count_by (is_own c.args.table)) c.self.view_is)
