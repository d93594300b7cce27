use Rattle.std.proofs.Common.{◌≡◌, ◌<◌, ◌∙◌, ◌++◌, ◌∷◌, [], ℕ, List, ap, subst, sym, length, slice_index, arith}
use Rattle.std.proofs.lemmas.List.{get_or_read}
use Rattle.wait_graph.specs.Cycles.{IsCycle}
use Rattle.wait_graph.specs.Targets.{next as next_of}
use Rattle.wait_graph.specs.Search.{Waits}
use Rattle.wait_graph.proofs.Trees.{tail-pushed, tail-whole}
use Rattle.wait_graph.proofs.search.path_to.Goals as goal

pub loop-at-preserved : goal.loop-at-preserved
loop-at-preserved c =
    let f = c.args.found.now in
    let next = next_of c.args.locks.now c.args.asked.now in
    let i = c.loop-at.invariant in
    let t = c.requires.tree in
    let at = c.loop-at.at in
    let up = c.index-at.result.now in
    let pos : 0 < at = c.loop-at-test.true in
    let same = t.same_length in
    let within = i.within in
    let low : at < length f.parents.items = omega (arith, same, within) in
    let e : up ≡ slice_index f.parents.items at = get_or_read f.parents.items at up low c.index-at.ensures 0 in
    let g = c.in_ok-push-2.ensures.items ∙ ap (λ (xs : List ℕ). c.loop-at.path.items ++ slice_index xs up ∷ []) c.as_slice-in-loop-at.ensures.keys in
    record {
      tail = tail-pushed next (slice_index f.threads.keys 0) f.threads.keys f.parents.items at up c.loop-at.path.items c.push-in-loop-at.new.self.items t pos within e g i.tail;
      within = (let p = (t.parent at pos within).0 in omega (arith, e, p, within));
    }

pub returns : goal.returns
returns c =
    let f = c.args.found.now in
    let next = next_of c.args.locks.now c.args.asked.now in
    let start = slice_index f.threads.keys 0 in
    let far = c.loop-at-test.false in
    subst (λ v. IsCycle (Waits next) start v) (sym c.reverse.ensures.items)
    (tail-whole next start f.threads.keys f.parents.items c.loop-at.at _ c.requires.tree (omega (arith, far)) c.loop-at.invariant.tail)
