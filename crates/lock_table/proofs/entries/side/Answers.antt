use Rattle.std.proofs.Common.{◌∙◌, ap, sym, arith, length}
use Rattle.std.specs.List.{filter}
use Rattle.link_lists.specs.Lists.{list_at}
use Rattle.lock_table.specs.Chains.{entries_of, is_named, named_since}
use Rattle.lock_table.proofs.Keeping.{name_list-below}
use Rattle.lock_table.proofs.Walks.{along-front, since-first}
use Rattle.lock_table.proofs.Lines.{side-is}
use Rattle.lock_table.proofs.entries.side.Goals as goal

pub front-requires : goal.front-requires
front-requires c =
    let b = c.args.book.now in
    let l = name_list-below b.buckets c.args.waits c.args.name b.kept.some_buckets in
    let e = c.name_list-list.ensures in
    let n = b.kept.name_lists in
    omega (arith, l, e, n)

pub invariant_of-result : goal.invariant_of-result
invariant_of-result c =
    let b = c.args.book.now in
    let l = name_list-below b.buckets c.args.waits c.args.name b.kept.some_buckets in
    let e = c.name_list-list.ensures in
    let n = b.kept.name_lists in
    record {
      there = omega (arith, l, e, n);
      entry_places = b.kept.name_ids ∙ sym b.kept.entry_places ∙ ap length (sym c.as_slice.ensures.value);
      along = along-front b.names c.name_list-list.result c.front.result c.front.ensures.sound c.front.ensures.front;
    }

pub returns : goal.returns
returns c =
    let b = c.args.book.now in
    let n = c.args.name in
    ap (λ o. named_since n b.names c.as_slice.result.now c.name_list-list.result o) c.front.ensures.front
    ∙ ap (λ v. filter (is_named n) (entries_of c.as_slice.result.now v)) (since-first (list_at b.names c.name_list-list.result))
    ∙ ap (λ v. filter (is_named n) (entries_of v (list_at b.names c.name_list-list.result))) c.as_slice.ensures.value
    ∙ ap (λ l. filter (is_named n) (entries_of b.entries.items (list_at b.names l))) c.name_list-list.ensures
    ∙ sym (side-is b c.args.waits n)
