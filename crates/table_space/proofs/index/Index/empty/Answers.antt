use Rattle.std.proofs.Common.{◌≡◌, ℕ, ◌+◌, ◌≤◌, Some, None, ◌∙◌, sym, ap, subst, arith, length}
use Rattle.std.specs.List.{count_by, sum_by}
use Rattle.std.specs.Option.{IsSome}
use Rattle.std.specs.BTreeMap as tree
use Rattle.std.proofs.lemmas.List.Sums.{count_by-le-length}
use Rattle.table_space.specs.Emptied.{is_of, IsWhole, HasOneMore}
use Rattle.table_space.specs.Index.{rows_in, row_at, has_row, one_if, RowBecomes}
use Rattle.table_space.proofs.EmptyLists.{put-more, more-longer, each-more}
use Rattle.table_space.proofs.KeyStates.{has-state-row, has-row-one, some-rows, row-becomes, rows-counted, counted-more}
use Rattle.table_space.proofs.index.Index.empty.Goals as goal

pub overflow_add-emptied : goal.overflow_add-emptied
overflow_add-emptied c =
    let v = c.self.view_is in
    let most = count_by-le-length (is_of c.args.to.table c.args.to.key) c.self.inside.empty.items in
    let empty : c.state-state.result.empty ≡ count_by (is_of c.args.to.table c.args.to.key) c.self.inside.empty.items = c.state-state.ensures.empty ∙ ap (λ z. count_by (is_of c.args.to.table c.args.to.key) z.empty) (sym v) in
    let some = some-rows c.self.inside.keys c.args.to.table c.args.to.key (subst (λ z. IsSome (row_at z.rows c.args.to.table c.args.to.key)) (sym v) c.requires.there) in
    omega (arith, most, empty, some, c.self.invariant.room, c.self.invariant.few)

pub keep-requires : goal.keep-requires
keep-requires c = record {
  there = has-state-row c.self.inside.keys c.args.to.table c.args.to.key (subst (λ z. IsSome (row_at z.rows c.args.to.table c.args.to.key)) (sym c.self.view_is) c.requires.there);
  sorted = c.self.invariant.sorted;
}

pub put-requires-clause-room : goal.put-requires-clause-room
put-requires-clause-room c =
    let some = some-rows c.self.inside.keys c.args.to.table c.args.to.key (subst (λ z. IsSome (row_at z.rows c.args.to.table c.args.to.key)) (sym c.self.view_is) c.requires.there) in
    omega (arith, some, c.self.invariant.room)

pub invariant_of-self : goal.invariant_of-self
invariant_of-self c =
    let was = c.self.inside.keys in
    let now = c.keep.new.keys in
    let e = c.args.to in
    let v = c.self.view_is in
    let b = c.keep.ensures in
    let p : HasOneMore c.self.inside.empty.items c.put.new.self.items e = put-more _ _ _ c.put.ensures.put in
    let one = has-row-one _ (subst (λ z. IsSome (row_at z.rows e.table e.key)) (sym v) c.requires.there) in
    let empty : c.state-state.result.empty ≡ count_by (is_of e.table e.key) c.self.inside.empty.items = c.state-state.ensures.empty ∙ ap (λ z. count_by (is_of e.table e.key) z.empty) (sym v) in
    record {
      sorted = b.sorted;
      ordered = c.put.ensures.ordered;
      few = omega (arith, more-longer _ _ _ p, c.put.ensures.spare, c.self.invariant.few);
      room = omega (arith, rows-counted was now e.table e.key _ b.gets b.sums, one, c.put.ensures.spare, c.self.invariant.room);
      whole = each-more IsWhole _ _ e p c.self.invariant.whole c.requires.whole;
      counted = counted-more was now e.table e.key _ b.gets _ _ e p (λ i. e.table) (λ i. e.key) (ap (λ (n : ℕ). n + 1) empty) c.self.invariant.counted;
    }

pub returns-clause-row : goal.returns-clause-row
returns-clause-row c =
    let b = c.keep.ensures in
    subst (λ z. RowBecomes z.rows (rows_in c.keep.new.keys.entries) c.args.to.table c.args.to.key None) c.self.view_is (row-becomes c.self.inside.keys c.keep.new.keys c.args.to.table c.args.to.key _ b.gets b.sums)
