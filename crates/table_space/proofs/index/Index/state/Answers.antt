use Rattle.std.proofs.Common.{◌≡◌, ◌∙◌, sym, ap, Some, None}
use Rattle.std.specs.Option.{option_copied}
use Rattle.std.specs.List.{count_by}
use Rattle.std.specs.BTreeMap as tree
use Rattle.table_space.specs.Numbers.{name_cmp}
use Rattle.table_space.specs.Emptied.{is_of}
use Rattle.table_space.specs.Index.{row_at, row_if, empty_of}
use Rattle.table_space.proofs.KeyStates.{row-is}
use Rattle.table_space.proofs.index.Index.state.Goals as goal

pub returns-in-None-clause-row : goal.returns-in-None-clause-row
returns-in-None-clause-row c =
    let g : tree.get name_cmp c.self.inside.keys (c.args.table, c.args.key.now) ≡ None = sym c.get.ensures.value ∙ ap option_copied c.in-None.is in
    sym (ap (λ z. row_at z.rows c.args.table c.args.key.now) (sym c.self.view_is) ∙ row-is c.self.inside.keys c.args.table c.args.key.now ∙ ap row_if g)

pub returns-in-None-clause-empty : goal.returns-in-None-clause-empty
returns-in-None-clause-empty c =
    let g : tree.get name_cmp c.self.inside.keys (c.args.table, c.args.key.now) ≡ None = sym c.get.ensures.value ∙ ap option_copied c.in-None.is in
    sym (ap empty_of g) ∙ c.self.invariant.counted c.args.table c.args.key.now ∙ ap (λ z. count_by (is_of c.args.table c.args.key.now) z.empty) c.self.view_is

pub returns-in-Some-clause-row : goal.returns-in-Some-clause-row
returns-in-Some-clause-row c =
    let g : tree.get name_cmp c.self.inside.keys (c.args.table, c.args.key.now) ≡ Some c.in-Some.state.now = sym c.get.ensures.value ∙ ap option_copied c.in-Some.is in
    sym (ap (λ z. row_at z.rows c.args.table c.args.key.now) (sym c.self.view_is) ∙ row-is c.self.inside.keys c.args.table c.args.key.now ∙ ap row_if g)

pub returns-in-Some-clause-empty : goal.returns-in-Some-clause-empty
returns-in-Some-clause-empty c =
    let g : tree.get name_cmp c.self.inside.keys (c.args.table, c.args.key.now) ≡ Some c.in-Some.state.now = sym c.get.ensures.value ∙ ap option_copied c.in-Some.is in
    sym (ap empty_of g) ∙ c.self.invariant.counted c.args.table c.args.key.now ∙ ap (λ z. count_by (is_of c.args.table c.args.key.now) z.empty) c.self.view_is
