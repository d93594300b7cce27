use Rattle.std.proofs.Common.{◌≡◌, None, replicate, rules}
use Rattle.table_space.proofs.OwnedPages.{are-new}
use Rattle.table_space.proofs.pages.Pages.new.Goals as goal

pub invariant_of-result : goal.invariant_of-result
invariant_of-result c =
    let none : c.in_ok-vec.field-0.items ≡ replicate c.args.pages None = search rules in
    are-new c.in_ok-vec.field-0.items c.in_ok-nodes.field-0.items _ c.args.pages none c.in_ok-nodes.ensures.places c.in_ok-nodes.ensures.nodes c.requires
