use Rattle.std.proofs.Common.{◌≡◌, ◌<◌, ◌^◌, subst}
use Rattle.table_space.specs.declared.emptied.EmptyEntry.{EmptyEntry}
use Rattle.table_space.specs.Emptied.{empty_cmp, IsNextTx}
use Rattle.table_space.specs.Ordered.{Each, AreBelow, IsFirstFrom}
use Rattle.table_space.proofs.TransactionBounds.{none-from, next-of}
use Rattle.table_space.proofs.LikeEntries.{few-transactions}
use Rattle.table_space.proofs.index.Index.next_tx.Goals as goal

pub returns-in-None : goal.returns-in-None
returns-in-None c =
    let h = subst (λ z. AreBelow empty_cmp z c.self.inside.empty.items) c.first.ensures c.in-None.ensures in
    record {
      next = subst (λ z. Each (λ (e : EmptyEntry). e.tx < c.args.from) z.empty) c.self.view_is (none-from c.args.from c.self.inside.empty.items h c.self.invariant.whole);
      few = subst (λ z. Each (λ (e : EmptyEntry). e.tx < 2 ^ 64) z.empty) c.self.view_is (few-transactions c.self.inside.empty.items c.self.invariant.whole);
    }

pub returns-in-Some : goal.returns-in-Some
returns-in-Some c =
    let h = subst (λ z. IsFirstFrom empty_cmp c.self.inside.empty.items z c.in-Some.found) c.first.ensures c.in-Some.ensures in
    record {
      next = subst (λ z. IsNextTx z.empty c.args.from c.in-Some.found.tx) c.self.view_is (next-of c.args.from c.self.inside.empty.items c.in-Some.found c.self.invariant.ordered c.self.invariant.whole h);
      few = subst (λ z. Each (λ (e : EmptyEntry). e.tx < 2 ^ 64) z.empty) c.self.view_is (few-transactions c.self.inside.empty.items c.self.invariant.whole);
    }
