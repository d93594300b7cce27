use Rattle.std.proofs.Common.{◌≡◌, ◌<◌, ◌+◌, ℕ, sym, ap, subst, length, arith, inl, inr, true, Ok, List}
use Rattle.std.proofs.lemmas.Bool.Decides.{eqb_tells}
use Rattle.wait_graph.specs.Targets.{next as next_of, among}
use Rattle.wait_graph.specs.Search.{IsClosedAt, IsLonger}
use Rattle.wait_graph.proofs.Trees.{none-closed, closed-longer, at-among, tree-few}
use Rattle.wait_graph.proofs.search.find_cycle.Goals as goal

closed-more : (next : ℕ → List ℕ) (start : ℕ) (old new : List ℕ) (n : ℕ) → n < length old → IsLonger old new → ((j : ℕ) → j < n → IsClosedAt next start old j) → IsClosedAt next start new n → (j : ℕ) → j < n + 1 → IsClosedAt next start new j
closed-more next start old new n low l before now j lt = elim (eqb_tells j n) as (λ v. IsClosedAt next start new j) [
  | inl t ↦ subst (λ k. IsClosedAt next start new k) (sym t.1) now
  | inr f ↦ let g = f.1 in let jn : j < n = omega (arith, g, lt) in closed-longer next start old new j (omega (arith, jn, low)) l (before j jn)
]

pub loop-at-preserved : goal.loop-at-preserved
loop-at-preserved c =
    let next = next_of c.args.locks.now c.args.asked.now in
    let i = c.loop-at.invariant in
    let old = c.loop-at.found.threads.keys in
    let new = c.explore.new.found.threads.keys in
    let l = c.len.ensures.len in let t = c.loop-at-test.true in
    let low : c.loop-at.at < length old = omega (arith, l, t) in
    record {
      tree = c.in_ok-explore.ensures.tree;
      within = (let l = c.in_ok-explore.ensures.longer.length_grows in omega (arith, l, low));
      closed = closed-more next c.args.asked.now.start old new c.loop-at.at low c.in_ok-explore.ensures.longer i.closed (c.in_ok-explore.ensures.closed (ap Ok c.if-branch.false));
      lines = c.in_ok-explore.ensures.lines;
      scanned = c.in_ok-explore.ensures.scanned (ap Ok c.if-branch.false);
    }

pub returns-clause-none : goal.returns-clause-none
returns-clause-none c = λ h threads cycle.
    let next = next_of c.args.locks.now c.args.asked.now in
    let i = c.loop-at.invariant in
    let found = c.loop-at.found.threads.keys in
    let far = c.loop-at-test.false in let len = c.len.ensures.len in
    none-closed next c.args.asked.now.start found (λ j lt. i.closed j (omega (arith, far, len, lt)))
    (subst (λ n. among n found ≡ true) i.tree.first (at-among found 0 i.tree.some)) threads cycle

pub loop-at-smaller : goal.loop-at-smaller
loop-at-smaller c =
    let few = tree-few (next_of c.args.locks.now c.args.asked.now) c.args.asked.now.start c.loop-at.found.threads.keys c.loop-at.found.parents.items c.loop-at.invariant.tree in
    let l = c.len.ensures.len in
    let t = c.loop-at-test.true in
    omega (arith, few, l, t)
