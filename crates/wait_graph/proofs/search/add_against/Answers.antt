use Rattle.std.proofs.Common.{Ok, ap, arith}
use Rattle.wait_graph.proofs.Places.{at-read}
use Rattle.wait_graph.proofs.Scans.{against-next}
use Rattle.wait_graph.proofs.Trees.{longer-then}
use Rattle.wait_graph.proofs.search.add_against.Goals as goal

pub loop-k-preserved : goal.loop-k-preserved
loop-k-preserved c =
    let i = c.loop-k.invariant in
    let line = c.args.line.now in
    record {
      tree = c.in_ok-look_at.ensures.tree;
      longer = longer-then _ _ _ i.longer c.in_ok-look_at.ensures.longer;
      done = against-next c.args.asked.now.start c.loop-k.found.threads.keys c.look_at.new.found.threads.keys c.args.waiter.thread c.args.waiter.mode line c.args.from c.loop-k.k _ i.done c.in_ok-look_at.ensures.longer
          (at-read line c.loop-k.k _ (let t = c.loop-k-test.true in let l = c.requires.inside in omega (arith, t, l))) (c.in_ok-look_at.ensures.found (ap Ok c.if-branch.false));
    }
