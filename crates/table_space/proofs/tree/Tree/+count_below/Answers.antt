use Rattle.std.proofs.Common.{◌≡◌, ◌∷◌, length, true, false, sym, ap, ◌∙◌, subst, arith}
use Rattle.std.specs.List.{count_by}
use Rattle.table_space.specs.Ordered.{IsOrdered, less}
use Rattle.table_space.proofs.Ordered.{ordered-left, ordered-right, count-fork-low, count-fork-high}
use Rattle.table_space.proofs.Forks.{at_fork}
use Rattle.table_space.proofs.tree.Tree.+count_below.Goals as goal

pub count_below-requires : goal.count_below-requires
count_below-requires g t c κs within =
    let f = at_fork c.self.view_is c.in-Fork.is in
    let n : c.deref-then-is_less-2.result.now ≡ c.in-Fork.node.value = cc in
    let o = (ordered-right g.K.Ord.cmp c.in-Fork.node.value.left (c.in-Fork.node.value.item ∷ c.in-Fork.node.value.right) (rw f.is at c.requires.ordered)).1 in
    (omega (arith, f.long, c.decreases, ap (λ z. length z.right) n), (within, (subst (λ z. IsOrdered g.K.Ord.cmp z.right) (sym n) o, omega (arith, f.long, c.requires.few, ap (λ z. length z.right) n))))

pub count_below-requires-else-is_less : goal.count_below-requires-else-is_less
count_below-requires-else-is_less g t c κs within =
    let f = at_fork c.self.view_is c.in-Fork.is in
    let n : c.deref-else-is_less.result.now ≡ c.in-Fork.node.value = cc in
    let o = ordered-left g.K.Ord.cmp c.in-Fork.node.value.left (c.in-Fork.node.value.item ∷ c.in-Fork.node.value.right) (rw f.is at c.requires.ordered) in
    (omega (arith, f.long, c.decreases, ap (λ z. length z.left) n), (within, (subst (λ z. IsOrdered g.K.Ord.cmp z.left) (sym n) o, omega (arith, f.long, c.requires.few, ap (λ z. length z.left) n))))

pub returns-then-is_less : goal.returns-then-is_less
returns-then-is_less g t c =
    let f = at_fork c.self.view_is c.in-Fork.is in
    let n : c.deref-then-is_less-2.result.now ≡ c.in-Fork.node.value = cc in
    let m : c.deref-then-is_less.result.now ≡ c.in-Fork.node.value = cc in
    let r : c.deref.result.now ≡ c.in-Fork.node.value = cc in
    let i : less g.K.Ord.cmp c.in-Fork.node.value.item c.args.bound.now ≡ true = ap (λ z. less g.K.Ord.cmp z.item c.args.bound.now) (sym r) ∙ (sym c.is_less.ensures ∙ c.if-is_less.true) in
    let k = count-fork-low g.met.K.Ord.total c.in-Fork.node.value.left c.in-Fork.node.value.right _ _ (rw f.is at c.requires.ordered) i in
    let w = ap (λ z. count_by (λ y. less g.K.Ord.cmp y c.args.bound.now) z) f.is in
    omega (arith, k, w, f.long, c.requires.few, c.len.ensures, c.count_below.ensures, ap (λ z. length z.left) m, ap (λ z. count_by (λ y. less g.K.Ord.cmp y c.args.bound.now) z.right) n)

pub returns-else-is_less : goal.returns-else-is_less
returns-else-is_less g t c =
    let f = at_fork c.self.view_is c.in-Fork.is in
    let n : c.deref-else-is_less.result.now ≡ c.in-Fork.node.value = cc in
    let r : c.deref.result.now ≡ c.in-Fork.node.value = cc in
    let i : less g.K.Ord.cmp c.in-Fork.node.value.item c.args.bound.now ≡ false = ap (λ z. less g.K.Ord.cmp z.item c.args.bound.now) (sym r) ∙ (sym c.is_less.ensures ∙ c.if-is_less.false) in
    let k = count-fork-high g.met.K.Ord.total c.in-Fork.node.value.left c.in-Fork.node.value.right _ _ (rw f.is at c.requires.ordered) i in
    let w = ap (λ z. count_by (λ y. less g.K.Ord.cmp y c.args.bound.now) z) f.is in
    omega (arith, k, w, c.count_below-else-is_less.ensures, ap (λ z. count_by (λ y. less g.K.Ord.cmp y c.args.bound.now) z.left) n)
