use Rattle.std.proofs.Common.{◌≡◌, false, ◌∙◌, sym, subst}
use Rattle.table_space.specs.declared.emptied.EmptyEntry.{EmptyEntry}
use Rattle.table_space.specs.Emptied.{empty_cmp, is_at}
use Rattle.table_space.specs.Ordered.{Each, AreBelow, IsFirstFrom}
use Rattle.table_space.proofs.EntriesAt.{none-at, none-at-first}
use Rattle.table_space.proofs.index.Index.first_at.Goals as goal

pub returns-in-None : goal.returns-in-None
returns-in-None c =
    let h = subst (λ z. AreBelow empty_cmp z c.self.inside.empty.items) c.first.ensures c.in-None.ensures in
    subst (λ z. Each (λ (e : EmptyEntry). is_at c.args.tx c.args.vacant_in c.args.row e ≡ false) z.empty) c.self.view_is (none-at c.args.tx c.args.vacant_in c.args.row c.self.inside.empty.items h c.self.invariant.whole)

pub returns-else-is_at : goal.returns-else-is_at
returns-else-is_at c =
    let h = subst (λ z. IsFirstFrom empty_cmp c.self.inside.empty.items z c.in-Some.found) c.first.ensures c.in-Some.ensures in
    subst (λ z. Each (λ (e : EmptyEntry). is_at c.args.tx c.args.vacant_in c.args.row e ≡ false) z.empty) c.self.view_is
    (none-at-first c.args.tx c.args.vacant_in c.args.row c.self.inside.empty.items c.in-Some.found c.self.invariant.ordered c.self.invariant.whole h (sym c.is_at.ensures ∙ c.if-is_at.false))
