use Rattle.wait_graph.proofs.search.explore.Goals as goal

pub scan-requires-clause-scanned : goal.scan-requires-clause-scanned
scan-requires-clause-scanned c = c.in_ok-spot.ensures.scanned c.args.asked.now.start c.args.found.now.threads.keys c.requires.scanned

pub returns-in-None-clause-scanned : goal.returns-in-None-clause-scanned
returns-in-None-clause-scanned c = λ h. c.in_ok-spot.ensures.scanned c.args.asked.now.start c.args.found.now.threads.keys c.requires.scanned
