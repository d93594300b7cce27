use Rattle.std.proofs.Common.{◌≡◌, ℕ, ◌+◌, ◌≤◌, Some, None, ◌∙◌, sym, ap, subst, arith, length}
use Rattle.std.specs.List.{count_by}
use Rattle.std.specs.BTreeMap as tree
use Rattle.table_space.specs.Emptied.{is_of, IsWhole, Stands, HasOneMore}
use Rattle.table_space.specs.Index.{rows_in, row_at, has_row, empty_of, RowBecomes}
use Rattle.table_space.specs.Numbers.{name_cmp}
use Rattle.table_space.proofs.EmptyLists.{taken-fewer, taken-spare, more-longer, each-fewer}
use Rattle.table_space.proofs.KeyStates.{has-state, some-counted, row-becomes, rows-counted, counted-fewer}
use Rattle.table_space.proofs.index.Index.fill.Goals as goal

pub overflow_sub-filled : goal.overflow_sub-filled
overflow_sub-filled c = omega (arith, c.state-state.ensures.empty, some-counted c.args.self.now.empty c.args.from.now c.requires.there)

pub keep-requires : goal.keep-requires
keep-requires c =
    let v = c.self.view_is in
    let s = subst (λ z. Stands z.empty c.args.from.now) (sym v) c.requires.there in
    record {
      there = has-state c.self.inside.keys (c.args.from.now.table, c.args.from.now.key) (omega (arith, c.self.invariant.counted c.args.from.now.table c.args.from.now.key, some-counted c.self.inside.empty.items c.args.from.now s));
      sorted = c.self.invariant.sorted;
    }

pub invariant_of-self : goal.invariant_of-self
invariant_of-self c =
    let was = c.self.inside.keys in
    let now = c.keep.new.keys in
    let e = c.args.from.now in
    let v = c.self.view_is in
    let s = subst (λ z. Stands z.empty e) (sym v) c.requires.there in
    let b = c.keep.ensures in
    let p : HasOneMore c.take.new.self.items c.self.inside.empty.items e = taken-fewer _ _ _ _ c.take.ensures.taken s in
    let spare = taken-spare _ _ _ _ _ _ c.take.ensures.taken c.take.ensures.spare s in
    let none : row_at (rows_in was.entries) e.table e.key ≡ None = ap (λ z. row_at z.rows e.table e.key) v ∙ c.requires.nowhere in
    let empty : c.state-state.result.empty ≡ count_by (is_of e.table e.key) c.self.inside.empty.items = c.state-state.ensures.empty ∙ ap (λ z. count_by (is_of e.table e.key) z.empty) (sym v) in
    record {
      sorted = b.sorted;
      ordered = c.take.ensures.ordered;
      few = omega (arith, more-longer _ _ _ p, spare, c.self.invariant.few);
      room = omega (arith, rows-counted was now e.table e.key _ b.gets b.sums, ap has_row none, spare, c.self.invariant.room);
      whole = each-fewer IsWhole _ _ e p c.self.invariant.whole;
      counted = counted-fewer was now e.table e.key _ b.gets _ _ e p (λ i. e.table) (λ i. e.key) (omega (arith, empty, some-counted c.self.inside.empty.items e s)) c.self.invariant.counted;
    }

pub returns-clause-row : goal.returns-clause-row
returns-clause-row c =
    let b = c.keep.ensures in
    subst (λ z. RowBecomes z.rows (rows_in c.keep.new.keys.entries) c.args.from.now.table c.args.from.now.key (Some c.args.row)) c.self.view_is (row-becomes c.self.inside.keys c.keep.new.keys c.args.from.now.table c.args.from.now.key _ b.gets b.sums)

pub returns-clause-went : goal.returns-clause-went
returns-clause-went c =
    let v = c.self.view_is in
    subst (λ z. HasOneMore c.take.new.self.items z.empty c.args.from.now) v (taken-fewer _ _ _ _ c.take.ensures.taken (subst (λ z. Stands z.empty c.args.from.now) (sym v) c.requires.there))
