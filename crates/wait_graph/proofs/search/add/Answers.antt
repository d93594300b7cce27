use Rattle.std.proofs.Common.{◌≡◌, ◌∙◌, ◌++◌, ◌∷◌, [], sym, subst, false}
use Rattle.wait_graph.specs.Search.{IsTree}
use Rattle.wait_graph.specs.Targets.{next as next_of, among}
use Rattle.wait_graph.proofs.Trees.{tree-push, insert-new}
use Rattle.wait_graph.proofs.search.add.Goals as goal

pub returns-clause-tree : goal.returns-clause-tree
returns-clause-tree c =
    let f = c.args.found.now in
    let out : among c.args.thread f.threads.keys ≡ false = sym c.is_among.ensures ∙ c.if-is_among.false in
    let next = next_of c.args.locks.now c.args.asked.now in
    let start = c.args.asked.now.start in
    subst (λ v. IsTree next start v c.push.new.self.items) (sym (c.in_ok-insert.ensures.keys ∙ insert-new c.args.thread f.threads.keys out))
    (subst (λ v. IsTree next start (f.threads.keys ++ c.args.thread ∷ []) v) (sym c.in_ok-push.ensures.items)
    (tree-push next start f.threads.keys f.parents.items c.args.from c.args.thread c.requires.tree c.requires.from c.requires.waits out c.ranges.thread.fits))
