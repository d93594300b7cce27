use Rattle.std.proofs.Common.{◌≡◌, ℕ, ◌+◌, ◌≤◌, ◌∙◌, sym, ap, subst, arith, length}
use Rattle.std.specs.List.{count_by, sum_by}
use Rattle.table_space.specs.Emptied.{is_of, empty_cmp, IsWhole, HasOneMore}
use Rattle.table_space.specs.Index.{rows_in, row_at, has_row, KeepsRows, StateBecomes}
use Rattle.table_space.specs.Ordered.{IsOrdered}
use Rattle.table_space.proofs.EmptyLists.{put-more, more-longer, each-more}
use Rattle.table_space.proofs.KeyStates.{put-becomes, rows-counted, rows-kept, counted-more}
use Rattle.table_space.proofs.index.Index.enter.Goals as goal

pub put-requires-clause-ordered : goal.put-requires-clause-ordered
put-requires-clause-ordered c = subst (IsOrdered empty_cmp) (sym c.reserve.ensures.items) c.self.invariant.ordered

pub invariant_of-self-2 : goal.invariant_of-self-2
invariant_of-self-2 c =
    let was = c.self.inside.keys in
    let now = c.insert.new.self in
    let e = c.made-entry.result in
    let v = c.self.view_is in
    let b = put-becomes was now _ _ c.in_ok-insert.ensures.updates.0 c.in_ok-insert.ensures.entries c.self.invariant.sorted c.in_ok-insert.ensures.ordered in
    let p : HasOneMore c.self.inside.empty.items c.put.new.self.items e = subst (λ z. HasOneMore z c.put.new.self.items e) c.reserve.ensures.items (put-more _ _ _ c.put.ensures.put) in
    let row : c.state-state.result.row ≡ row_at (rows_in was.entries) c.args.table c.args.key.now = c.state-state.ensures.row ∙ ap (λ z. row_at z.rows c.args.table c.args.key.now) (sym v) in
    let empty : c.state-state.result.empty ≡ count_by (is_of c.args.table c.args.key.now) c.self.inside.empty.items = c.state-state.ensures.empty ∙ ap (λ z. count_by (is_of c.args.table c.args.key.now) z.empty) (sym v) in
    let counts = rows-counted was now c.args.table c.args.key.now _ b.gets b.sums in
    record {
      sorted = b.sorted;
      ordered = c.put.ensures.ordered;
      few = omega (arith, more-longer _ _ _ p, c.put.ensures.spare, c.in_ok-reserve.ensures.ok, c.nodes.ensures, c.if-nodes.false, c.self.invariant.few);
      room = omega (arith, counts, ap has_row row, c.put.ensures.spare, c.in_ok-reserve.ensures.ok, c.self.invariant.room);
      whole = each-more IsWhole _ _ e p c.self.invariant.whole c.made-entry.ensures.whole;
      counted = counted-more was now c.args.table c.args.key.now _ b.gets _ _ e p (ap (λ z. z.table) c.made-entry.ensures.is) (ap (λ z. z.key) c.made-entry.ensures.is) (ap (λ (n : ℕ). n + 1) empty) c.self.invariant.counted;
    }

pub returns-clause-rows : goal.returns-clause-rows
returns-clause-rows c =
    let was = c.self.inside.keys in
    let b = put-becomes was c.insert.new.self _ _ c.in_ok-insert.ensures.updates.0 c.in_ok-insert.ensures.entries c.self.invariant.sorted c.in_ok-insert.ensures.ordered in
    let row : c.state-state.result.row ≡ row_at (rows_in was.entries) c.args.table c.args.key.now = c.state-state.ensures.row ∙ ap (λ z. row_at z.rows c.args.table c.args.key.now) (sym c.self.view_is) in
    subst (λ z. KeepsRows z.rows (rows_in c.insert.new.self.entries)) c.self.view_is (rows-kept was c.insert.new.self c.args.table c.args.key.now _ b.gets b.sums row)
