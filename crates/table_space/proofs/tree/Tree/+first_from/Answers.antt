use Rattle.std.proofs.Common.{◌≡◌, ◌∷◌, length, true, sym, ap, ◌∙◌, subst, arith}
use Rattle.std.specs.Option.{MatchOption}
use Rattle.table_space.specs.Ordered.{IsOrdered, AreBelow, IsFirstFrom, less}
use Rattle.table_space.proofs.Ordered.{ordered-left, ordered-right, first-right}
use Rattle.table_space.proofs.Forks.{at_fork}
use Rattle.table_space.proofs.tree.Tree.+first_from.Goals as goal

pub first_from-requires : goal.first_from-requires
first_from-requires g t c κs within =
    let f = at_fork c.self.view_is c.in-Fork.is in
    let n : c.deref-then-is_less.result.now ≡ c.in-Fork.node.value = cc in
    let o = (ordered-right g.K.Ord.cmp c.in-Fork.node.value.left (c.in-Fork.node.value.item ∷ c.in-Fork.node.value.right) (rw f.is at c.requires)).1 in
    (omega (arith, f.long, c.decreases, ap (λ z. length z.right) n), (within, subst (λ z. IsOrdered g.K.Ord.cmp z.right) (sym n) o))

pub first_from-requires-else-is_less : goal.first_from-requires-else-is_less
first_from-requires-else-is_less g t c κs within =
    let f = at_fork c.self.view_is c.in-Fork.is in
    let n : c.deref-else-is_less.result.now ≡ c.in-Fork.node.value = cc in
    let o = ordered-left g.K.Ord.cmp c.in-Fork.node.value.left (c.in-Fork.node.value.item ∷ c.in-Fork.node.value.right) (rw f.is at c.requires) in
    (omega (arith, f.long, c.decreases, ap (λ z. length z.left) n), (within, subst (λ z. IsOrdered g.K.Ord.cmp z.left) (sym n) o))

pub returns-then-is_less : goal.returns-then-is_less
returns-then-is_less g t c =
    let f = at_fork c.self.view_is c.in-Fork.is in
    let n : c.deref-then-is_less.result.now ≡ c.in-Fork.node.value = cc in
    let r : c.deref.result.now ≡ c.in-Fork.node.value = cc in
    let i : less g.K.Ord.cmp c.in-Fork.node.value.item c.args.bound.now ≡ true = ap (λ z. less g.K.Ord.cmp z.item c.args.bound.now) (sym r) ∙ (sym c.is_less.ensures ∙ c.if-is_less.true) in
    let h = subst (λ z. MatchOption c.first_from.result (AreBelow g.K.Ord.cmp c.args.bound.now z.right) (IsFirstFrom g.K.Ord.cmp z.right c.args.bound.now)) n c.first_from.ensures in
    subst
    (λ z. MatchOption c.first_from.result (AreBelow g.K.Ord.cmp c.args.bound.now z) (IsFirstFrom g.K.Ord.cmp z c.args.bound.now))
    (sym f.is)
    (first-right g.met.K.Ord.total c.in-Fork.node.value.left c.in-Fork.node.value.right _ _ c.first_from.result (rw f.is at c.requires) i h)
