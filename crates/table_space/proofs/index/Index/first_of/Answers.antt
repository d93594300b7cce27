use Rattle.std.proofs.Common.{◌≡◌, ◌≢◌, rules, subst}
use Rattle.table_space.specs.declared.emptied.EmptyEntry.{EmptyEntry}
use Rattle.table_space.specs.Emptied.{empty_cmp}
use Rattle.table_space.specs.Ordered.{Each, AreBelow, IsFirstFrom}
use Rattle.table_space.proofs.TransactionBounds.{none-from, none-of, none-of-next, next-of}
use Rattle.table_space.proofs.index.Index.first_of.Goals as goal

pub returns-in-None : goal.returns-in-None
returns-in-None c =
    let h = subst (λ z. AreBelow empty_cmp z c.self.inside.empty.items) c.first.ensures c.in-None.ensures in
    subst (λ z. Each (λ (e : EmptyEntry). e.tx ≢ c.args.tx) z.empty) c.self.view_is (none-of c.args.tx c.self.inside.empty.items (none-from c.args.tx c.self.inside.empty.items h c.self.invariant.whole))

pub returns-else-found-tx : goal.returns-else-found-tx
returns-else-found-tx c =
    let h = subst (λ z. IsFirstFrom empty_cmp c.self.inside.empty.items z c.in-Some.found) c.first.ensures c.in-Some.ensures in
    let other : c.in-Some.found.tx ≢ c.args.tx = search rules in
    subst (λ z. Each (λ (e : EmptyEntry). e.tx ≢ c.args.tx) z.empty) c.self.view_is (none-of-next c.args.tx c.in-Some.found.tx c.self.inside.empty.items other (next-of c.args.tx c.self.inside.empty.items c.in-Some.found c.self.invariant.ordered c.self.invariant.whole h))
