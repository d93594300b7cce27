use Rattle.std.proofs.Common.{◌≡◌, ◌+◌, length, ap, arith}
use Rattle.std.specs.List.{count_by}
use Rattle.table_space.specs.declared.emptied.EmptyEntry.{EmptyEntry}
use Rattle.table_space.specs.Emptied.{empty_cmp, is_at}
use Rattle.table_space.specs.Ordered.{less}
use Rattle.table_space.proofs.EntriesAt.{count-at}
use Rattle.table_space.proofs.index.Index.count_at.Goals as goal

pub overflow_sub-result : goal.overflow_sub-result
overflow_sub-result c =
    let xs = c.self.inside.empty.items in
    let high = ap (λ z. count_by (λ x. less empty_cmp x z) xs) c.first-to.ensures in
    let low = ap (λ z. count_by (λ x. less empty_cmp x z) xs) c.first-from.ensures in
    omega (arith, c.count_below.ensures, c.count_below-2.ensures, high, low, count-at c.args.tx c.args.vacant_in c.args.row xs c.self.invariant.whole)

pub returns : goal.returns
returns c =
    let xs = c.self.inside.empty.items in
    let high = ap (λ z. count_by (λ x. less empty_cmp x z) xs) c.first-to.ensures in
    let low = ap (λ z. count_by (λ x. less empty_cmp x z) xs) c.first-from.ensures in
    let seen = ap (λ z. count_by (is_at c.args.tx c.args.vacant_in c.args.row) z.empty) c.self.view_is in
    let long = ap (λ z. length z.empty) c.self.view_is in
    record {
      count = omega (arith, c.count_below.ensures, c.count_below-2.ensures, high, low, seen, count-at c.args.tx c.args.vacant_in c.args.row xs c.self.invariant.whole);
      few = omega (arith, long, c.self.invariant.few);
    }
