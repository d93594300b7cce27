use Rattle.std.proofs.Common.{◌∙◌, sym, arith}
use Rattle.link_lists.proofs.lists.Lists.move_to_back.Goals as goal

pub push_back-requires-clause-list : goal.push_back-requires-clause-list
push_back-requires-clause-list c = let there = c.home.ensures.sound.there c.in-Some.list c.args.id (sym c.home.ensures.home ∙ c.in-Some.is) in
    let e = c.unlink.ensures.counts.lists in omega (arith, there.0, e)
