use Rattle.std.proofs.Common.{◌∙◌, List, Option, map, ap, sym, subst}
use Rattle.thread_queues.specs.declared.event.Due.{Due}
use Rattle.thread_queues.specs.declared.limits.Node.{Node}
use Rattle.thread_queues.specs.Firsts.{IsFirst}
use Rattle.thread_queues.specs.Tree.{first_at}
use Rattle.thread_queues.proofs.Roots.{root-first}
use Rattle.thread_queues.proofs.limits.Limits.first.Goals as goal

pub returns : goal.returns
returns c =
    subst (λ (ds : List (Option Due)). IsFirst ds c.first_at.result) c.self.view_is
    (subst (λ (r : Option Due). IsFirst (map (λ (n : Node). n.own) c.self.inside.nodes.items) r) (sym (c.first_at.ensures ∙ ap (λ (ns : List Node). first_at ns 0) c.deref.ensures.value)) (root-first c.self.inside.nodes.items c.self.invariant.tree))
