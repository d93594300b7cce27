use Rattle.std.proofs.Common.{◌≡◌, ℕ, ◌+◌, ◌≤◌, ◌∙◌, sym, ap, subst, arith, length}
use Rattle.std.specs.List.{count_by}
use Rattle.table_space.specs.Emptied.{is_of, IsWhole, Stands, HasOneMore}
use Rattle.table_space.specs.Index.{rows_in, row_at, has_row, KeepsRows}
use Rattle.table_space.proofs.EmptyLists.{taken-fewer, taken-spare, more-longer, each-fewer}
use Rattle.table_space.proofs.KeyStates.{has-state, some-counted, rows-kept, rows-counted, counted-fewer}
use Rattle.table_space.proofs.index.Index.drop_entry.Goals as goal

pub lose-requires : goal.lose-requires
lose-requires c =
    let e = c.args.entry.now in
    let s = subst (λ z. Stands z.empty e) (sym c.self.view_is) c.requires in
    record {
      there = has-state c.self.inside.keys (e.table, e.key) (omega (arith, c.self.invariant.counted e.table e.key, some-counted c.self.inside.empty.items e s));
      some = omega (arith, c.state-state.ensures.empty, some-counted c.args.self.now.empty e c.requires);
      sorted = c.self.invariant.sorted;
    }

pub invariant_of-self : goal.invariant_of-self
invariant_of-self c =
    let was = c.self.inside.keys in
    let now = c.lose.new.keys in
    let e = c.args.entry.now in
    let v = c.self.view_is in
    let s = subst (λ z. Stands z.empty e) (sym v) c.requires in
    let b = c.lose.ensures.becomes in
    let went : HasOneMore c.take.new.self.items c.self.inside.empty.items e = taken-fewer _ _ _ _ c.take.ensures.taken s in
    let spare = taken-spare _ _ _ _ _ _ c.take.ensures.taken c.take.ensures.spare s in
    let row : c.state-state.result.row ≡ row_at (rows_in was.entries) e.table e.key = c.state-state.ensures.row ∙ ap (λ z. row_at z.rows e.table e.key) (sym v) in
    let empty : c.state-state.result.empty ≡ count_by (is_of e.table e.key) c.self.inside.empty.items = c.state-state.ensures.empty ∙ ap (λ z. count_by (is_of e.table e.key) z.empty) (sym v) in
    record {
      sorted = b.sorted;
      ordered = c.take.ensures.ordered;
      few = omega (arith, more-longer _ _ _ went, spare, c.self.invariant.few);
      room = omega (arith, rows-counted was now e.table e.key _ b.gets b.sums, ap has_row (c.lose.ensures.row ∙ row), spare, c.self.invariant.room);
      whole = each-fewer IsWhole _ _ e went c.self.invariant.whole;
      counted = counted-fewer was now e.table e.key _ b.gets _ _ e went (λ i. e.table) (λ i. e.key) (c.lose.ensures.fewer ∙ empty) c.self.invariant.counted;
    }

pub returns-clause-went : goal.returns-clause-went
returns-clause-went c =
    let v = c.self.view_is in
    subst (λ z. HasOneMore c.take.new.self.items z.empty c.args.entry.now) v (taken-fewer _ _ _ _ c.take.ensures.taken (subst (λ z. Stands z.empty c.args.entry.now) (sym v) c.requires))

pub returns-clause-rows : goal.returns-clause-rows
returns-clause-rows c =
    let e = c.args.entry.now in
    let b = c.lose.ensures.becomes in
    let row : c.state-state.result.row ≡ row_at (rows_in c.self.inside.keys.entries) e.table e.key = c.state-state.ensures.row ∙ ap (λ z. row_at z.rows e.table e.key) (sym c.self.view_is) in
    subst (λ z. KeepsRows z.rows (rows_in c.lose.new.keys.entries)) c.self.view_is (rows-kept c.self.inside.keys c.lose.new.keys e.table e.key _ b.gets b.sums (c.lose.ensures.row ∙ row))
