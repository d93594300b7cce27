use Rattle.std.proofs.Common.{◌≡◌, ◌++◌, sym, ap, ◌∙◌, subst}
use Rattle.table_space.specs.Ordered.{IsOrdered, AreBelow, AreFrom}
use Rattle.table_space.proofs.Ordered.{ordered-put}
use Rattle.table_space.proofs.tree.Tree.insert.Goals as goal

pub returns-clause-ordered : goal.returns-clause-ordered
returns-clause-ordered g c =
    let o = subst (IsOrdered g.K.Ord.cmp) (sym (c.split-low.ensures.all ∙ c.taken.ensures.given)) c.requires in
    let n : c.deref.result.now ≡ c.args.node.value = cc in
    let e = c.join-2.ensures ∙ ap (λ z. c.split-low.result.0 ++ z) (c.join.ensures ∙ ap (λ z. z ++ c.split-low.result.1) c.alone.ensures) in
    subst
    (IsOrdered g.K.Ord.cmp)
    (sym e)
    (ordered-put
    g.met.K.Ord.total
    c.split-low.result.0
    c.split-low.result.1
    c.args.node.value.item
    o
    (subst (λ z. AreBelow g.K.Ord.cmp z.item c.split-low.result.0) n c.split-low.ensures.low)
    (subst (λ z. AreFrom g.K.Ord.cmp z.item c.split-low.result.1) n c.split-low.ensures.high))
