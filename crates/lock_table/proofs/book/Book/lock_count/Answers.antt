use Rattle.std.proofs.Common.{◌∙◌, ap, arith, count_by}
use Rattle.lock_table.specs.Book.{in_list}
use Rattle.lock_table.specs.Chains.{entries_of}
use Rattle.link_lists.specs.Lists.{list_at}
use Rattle.lock_table.specs.Table.{is_of}
use Rattle.lock_table.proofs.Counts.{count-more, count-within}
use Rattle.lock_table.proofs.book.Book.lock_count.Goals as goal

pub loop-bucket-preserved : goal.loop-bucket-preserved
loop-bucket-preserved c =
    let b = c.args.self.now in
    let p = is_of c.args.thread in
    let i = c.loop-bucket.invariant in
    let e = c.count_of-count.ensures.count ∙ ap (λ v. count_by p (entries_of v (list_at b.names c.loop-bucket.bucket))) c.as_slice.ensures.value in
    let m = count-more p c.loop-bucket.bucket (in_list b) in
    omega (arith, i, e, m)

pub overflow_add-count : goal.overflow_add-count
overflow_add-count c =
    let b = c.args.self.now in
    let p = is_of c.args.thread in
    let i = c.loop-bucket.invariant in
    let e = c.count_of-count.ensures.count ∙ ap (λ v. count_by p (entries_of v (list_at b.names c.loop-bucket.bucket))) c.as_slice.ensures.value in
    let w = count-within p c.loop-bucket.bucket b.buckets (in_list b) c.loop-bucket-test.true in
    let used = b.kept.count in
    let free = b.kept.free in
    omega (arith, i, e, w, used, free)
