use Rattle.std.proofs.Common.{◌≡◌, ◌∷◌, ◌++◌, length, sym, ap, ◌∙◌, true, false, arith}
use Rattle.table_space.specs.Ordered.{less}
use Rattle.table_space.proofs.Ordered.{ordered-left, ordered-right, below-fork, from-fork}
use Rattle.table_space.proofs.Forks.{at_fork}
use Rattle.table_space.proofs.tree.Tree.+split.Goals as goal

pub split-low-requires : goal.split-low-requires
split-low-requires g t c κs within =
    let f = at_fork c.self.view_is c.in-Fork.is in
    let e : c.taken.result ≡ c.in-Fork.node.value.right = cc in
    (omega (arith, f.long, ap length e, c.decreases), (within, rw e (ordered-right _ c.in-Fork.node.value.left (c.in-Fork.node.value.item ∷ c.in-Fork.node.value.right) (rw f.is at c.requires)).1))

pub split-low-requires-else-is_less : goal.split-low-requires-else-is_less
split-low-requires-else-is_less g t c κs within =
    let f = at_fork c.self.view_is c.in-Fork.is in
    let e : c.taken-else-is_less.result ≡ c.in-Fork.node.value.left = cc in
    (omega (arith, f.long, ap length e, c.decreases), (within, rw e (ordered-left _ _ (c.in-Fork.node.value.item ∷ c.in-Fork.node.value.right) (rw f.is at c.requires))))

pub returns-then-is_less-clause-low : goal.returns-then-is_less-clause-low
returns-then-is_less-clause-low g t c =
    let f = at_fork c.self.view_is c.in-Fork.is in
    let n : c.deref_mut.result.now ≡ c.in-Fork.node.value = cc in
    let r : c.deref.result.now ≡ c.in-Fork.node.value = cc in
    let i : less g.K.Ord.cmp c.in-Fork.node.value.item c.args.bound.now ≡ true = ap (λ z. less g.K.Ord.cmp z.item c.args.bound.now) (sym r) ∙ (sym c.is_less.ensures ∙ c.if-is_less.true) in
    let h = c.deref_mut-then-is_less.ensures.value in
    let e = c.of.ensures ∙ (ap (λ z. z.left ++ z.item ∷ c.split-low.result.0) h ∙ ap (λ z. z.left ++ z.item ∷ c.split-low.result.0) n) in
    rw e (below-fork g.met.K.Ord.total c.in-Fork.node.value.left c.in-Fork.node.value.right _ _ _ (rw f.is at c.requires) i c.split-low.ensures.low)

pub returns-else-is_less-clause-high : goal.returns-else-is_less-clause-high
returns-else-is_less-clause-high g t c =
    let f = at_fork c.self.view_is c.in-Fork.is in
    let n : c.deref_mut-else-is_less.result.now ≡ c.in-Fork.node.value = cc in
    let r : c.deref.result.now ≡ c.in-Fork.node.value = cc in
    let i : less g.K.Ord.cmp c.in-Fork.node.value.item c.args.bound.now ≡ false = ap (λ z. less g.K.Ord.cmp z.item c.args.bound.now) (sym r) ∙ (sym c.is_less.ensures ∙ c.if-is_less.false) in
    let h = c.deref_mut-else-is_less-2.ensures.value in
    let e = c.of-else-is_less.ensures ∙ (ap (λ z. c.split-low-else-is_less.result.1 ++ z.item ∷ z.right) h ∙ ap (λ z. c.split-low-else-is_less.result.1 ++ z.item ∷ z.right) n) in
    rw e (from-fork g.met.K.Ord.total c.in-Fork.node.value.left c.in-Fork.node.value.right _ _ _ (rw f.is at c.requires) i c.split-low-else-is_less.ensures.high)
