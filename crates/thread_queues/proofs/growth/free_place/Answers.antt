use Rattle.link_lists.specs.Lists.{list_at}
use Rattle.thread_queues.proofs.Growing.{first-in}
use Rattle.thread_queues.proofs.growth.free_place.Goals as goal

pub returns-in-Some-clause-free : goal.returns-in-Some-clause-free
returns-in-Some-clause-free c = (c.requires.alive.home 1 c.in-Some.id).1 (first-in (list_at c.args.alive.now 1) c.in-Some.id c.in-Some.ensures.front)
