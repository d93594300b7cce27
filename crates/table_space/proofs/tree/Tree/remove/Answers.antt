use Rattle.std.proofs.Common.{◌≡◌, ◌∷◌, ◌++◌, sym, ap, ◌∙◌, subst, append-nil, true}
use Rattle.table_space.specs.Ordered.{IsOrdered, HasNone, less}
use Rattle.table_space.proofs.Ordered.{ordered-taken, none-below, none-split}
use Rattle.table_space.proofs.tree.Tree.remove.Goals as goal

pub returns-in-None-clause-taken : goal.returns-in-None-clause-taken
returns-in-None-clause-taken g c =
    let h = rw c.in-None.is at c.pop_first-first.ensures in
    let e : c.split-low.result.0 ≡ c.args.self.now = sym (append-nil c.split-low.result.0) ∙ (ap (λ z. c.split-low.result.0 ++ z) (sym h.0) ∙ (c.split-low.ensures.all ∙ c.taken.ensures.given)) in
    (subst (λ z. HasNone g.K.Ord.cmp z c.args.item.now) e (none-below g.met.K.Ord.total _ _ c.split-low.ensures.low), e)

pub returns-then-is_less-clause-taken : goal.returns-then-is_less-clause-taken
returns-then-is_less-clause-taken g c =
    let h = rw c.in-Some.is at c.pop_first-first.ensures in
    let all : c.split-low.result.0 ++ c.in-Some.node.value.item ∷ c.pop_first-first.result.1 ≡ c.args.self.now = ap (λ z. c.split-low.result.0 ++ z) (sym h) ∙ (c.split-low.ensures.all ∙ c.taken.ensures.given) in
    let e = c.join-then-is_less.ensures ∙ ap (λ z. c.split-low.result.0 ++ z) (c.join.ensures ∙ ap (λ z. z ++ c.pop_first-first.result.1) c.alone.ensures) in
    let r : c.deref.result.now ≡ c.in-Some.node.value = cc in
    let i : less g.K.Ord.cmp c.args.item.now c.in-Some.node.value.item ≡ true = ap (λ z. less g.K.Ord.cmp c.args.item.now z.item) (sym r) ∙ (sym c.is_less.ensures ∙ c.if-is_less.true) in
    (subst (λ z. HasNone g.K.Ord.cmp z c.args.item.now) all (none-split g.met.K.Ord.total c.split-low.result.0 c.pop_first-first.result.1 _ _ (subst (IsOrdered g.K.Ord.cmp) (sym all) c.requires) c.split-low.ensures.low i), e ∙ all)

pub returns-else-is_less-clause-ordered : goal.returns-else-is_less-clause-ordered
returns-else-is_less-clause-ordered g c =
    let h = rw c.in-Some.is at c.pop_first-first.ensures in
    let all : c.split-low.result.0 ++ c.in-Some.node.value.item ∷ c.pop_first-first.result.1 ≡ c.args.self.now = ap (λ z. c.split-low.result.0 ++ z) (sym h) ∙ (c.split-low.ensures.all ∙ c.taken.ensures.given) in
    let e : c.join-else-is_less.result ≡ c.split-low.result.0 ++ c.pop_first-first.result.1 = cc in
    subst (IsOrdered g.K.Ord.cmp) (sym e) (ordered-taken g.met.K.Ord.total c.split-low.result.0 c.pop_first-first.result.1 _ (subst (IsOrdered g.K.Ord.cmp) (sym all) c.requires))
