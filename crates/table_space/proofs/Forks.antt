-- What is known of a tree's items once its link is a fork.
use Rattle.std.proofs.Common.{◌≡◌, ◌+◌, List, ◌∷◌, ◌++◌, length, sym, ap, ◌∙◌, arith, length-append}
use Rattle.std.specs.declared.alloc.Global.{Global}
use Rattle.std.proofs.Common.{Box}
use Rattle.table_space.specs.declared.tree.Link.{Link}
use Rattle.table_space.specs.declared.tree.Node.{Node}
use Rattle.table_space.specs.declared.tree.Link.TheVariants.{Fork}
use Rattle.table_space.specs.Tree.{items}

module _ {K : Type 0} where
  pub record AtFork (d l : List K) (x : K) (r : List K) : Type 0 where
    pub is : d ≡ l ++ x ∷ r
    pub long : length d ≡ length l + length r + 1

  pub at_fork : {k : Link K} {d : List K} {node : Box (Node K) Global} → items k ≡ d → k ≡ Fork node → AtFork d node.value.left node.value.item node.value.right
  at_fork {k} {d} {node} view_is is =
      let e : d ≡ node.value.left ++ node.value.item ∷ node.value.right = sym view_is ∙ ap items is in
      let l : length d ≡ length node.value.left + length node.value.right + 1 = omega (arith, ap length e, length-append node.value.left (node.value.item ∷ node.value.right)) in
      record { is = e; long = l }
