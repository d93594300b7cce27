use Rattle.std.proofs.Common.{◌≡◌, true, false, sym, subst}
use Rattle.std.specs.Bool.{IsTrue}
use Rattle.table_space.specs.Emptied.{empty_cmp, Stands}
use Rattle.table_space.specs.Ordered.{AreBelow}
use Rattle.table_space.proofs.EmptyLists.{has-none, has-some}
use Rattle.table_space.proofs.index.Index.has.Goals as goal

pub returns-in-None : goal.returns-in-None
returns-in-None c = has-none c.args.self.now.empty c.args.entry.now (subst (λ z. AreBelow empty_cmp c.args.entry.now z.empty) c.self.view_is c.in-None.ensures)

pub returns-in-Some : goal.returns-in-Some
returns-in-Some c =
    subst
    (λ z. (IsTrue c.is_same.result → Stands z.empty c.args.entry.now) × (Stands z.empty c.args.entry.now → IsTrue c.is_same.result))
    c.self.view_is
    (has-some c.self.inside.empty.items c.args.entry.now c.in-Some.found _ c.self.invariant.ordered c.in-Some.ensures c.is_same.ensures)
