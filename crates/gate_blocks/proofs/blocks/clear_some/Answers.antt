use Rattle.std.proofs.Common.{◌≡◌, ◌+◌, ◌-◌, ◌<◌, ◌∙◌, subst, sym, ap, arith}
use Rattle.gate_blocks.specs.Gates.{gate, shut, block, Closing}
use Rattle.gate_blocks.proofs.Steps.{BlocksOf, BlockOf}
use Rattle.gate_blocks.proofs.OneBlock.{block-closed, on_ok}
use Rattle.gate_blocks.proofs.Closings.{closing, one_more, more_gates, gate-beside, next_closed, next_zeroed}
use Rattle.gate_blocks.proofs.blocks.clear_some.Goals as goal

pub returns-in_err-close_gate-clause-any_moment : goal.returns-in_err-close_gate-clause-any_moment
returns-in_err-close_gate-clause-any_moment g c =
    let d = g.D.Disk in let m = g.met.D.Disk in let old = c.args.disk.now in let mid = c.loop-k.disk in let new = c.close_gate.new.disk in
    let r = c.args.region.now in let at = c.args.at in let n = c.args.count in let k = c.loop-k.k in
    let first : BlocksOf = (r, at, k, d.image old) in
    let one : BlockOf = (r, at + k, d.image mid) in
    let more : BlocksOf = (r, at, k + 1, d.image old) in
    let run = c.then.ensures first one more old mid new c.loop-k.invariant.run c.close_gate.ensures.any_moment
    (λ x y left so_far. more_gates r at k (k + 1) (d.image old) x y (omega arith) so_far)
    (λ x e y left so_far left_e last.
    let tells = m.left_tells old (d.now old) x (m.counts_now old x left) in
    let same = gate-beside r at k (at + k) (d.image old) (d.image old) (d.image mid) (λ h. omega (arith, h.1)) (c.loop-k.invariant.torn tells) in
    one_more r at k (d.image old) (d.image mid) x e y so_far last same) in
    c.seen_as.ensures more (r, at, n) old new run (λ x y left so_far. closing r at n (d.image old) x y (c.requires.stable x left)
    (more_gates r at (k + 1) n (d.image old) x y (omega (arith, c.loop-k-test.true)) so_far))

pub returns-in_err-close_gate-clause-shown : goal.returns-in_err-close_gate-clause-shown
returns-in_err-close_gate-clause-shown g c = λ tells.
    let d = g.D.Disk in let old = c.args.disk.now in
    let r = c.args.region.now in let at = c.args.at in let n = c.args.count in let k = c.loop-k.k in
    let so_far = c.loop-k.invariant.torn tells in
    let same = gate-beside r at k (at + k) (d.image old) (d.image old) (d.image c.loop-k.disk) (λ h. omega (arith, h.1)) so_far in
    let more = one_more r at k (d.image old) (d.image c.loop-k.disk) _ _ _ so_far (c.close_gate.ensures.shown tells) same in
    closing r at n (d.image old) _ _ (c.requires.stable _ (g.met.D.Disk.image_left old tells))
    (more_gates r at (k + 1) n (d.image old) _ _ (omega (arith, c.loop-k-test.true)) more)

pub loop-k-preserved : goal.loop-k-preserved
loop-k-preserved g c =
    let d = g.D.Disk in let m = g.met.D.Disk in let old = c.args.disk.now in let mid = c.loop-k.disk in let new = c.close_gate.new.disk in
    let r = c.args.region.now in let at = c.args.at in let k = c.loop-k.k in
    let first : BlocksOf = (r, at, k, d.image old) in
    let one : BlockOf = (r, at + k, d.image mid) in
    let more : BlocksOf = (r, at, k + 1, d.image old) in
    let same : d.tells → gate r (at + k) (d.image mid) ≡ gate r (at + k) (d.image old) =
    λ tells. gate-beside r at k (at + k) (d.image old) (d.image old) (d.image mid) (λ h. omega (arith, h.1)) (c.loop-k.invariant.torn tells) in
    record {
      run = c.then.ensures first one more old mid new c.loop-k.invariant.run c.close_gate.ensures.any_moment
          (λ x y left so_far. more_gates r at k (k + 1) (d.image old) x y (omega arith) so_far)
          (λ x e y left so_far left_e last. one_more r at k (d.image old) (d.image mid) x e y so_far last (same (m.left_tells old (d.now old) x (m.counts_now old x left))));
      torn = λ tells. one_more r at k (d.image old) (d.image mid) _ _ _ (c.loop-k.invariant.torn tells) (c.close_gate.ensures.shown tells) (same tells);
      closed = λ tells. next_closed r at k (d.image mid) (d.image new) (c.loop-k.invariant.closed tells) (c.close_gate.ensures.shown tells) (c.in_ok-close_gate.ensures.closed tells);
      zeroed = λ tells. next_zeroed r at k (d.image old) (d.image mid) (d.image new) (c.loop-k.invariant.zeroed tells) (c.close_gate.ensures.shown tells) (c.in_ok-close_gate.ensures.zeroed tells) (same tells);
      sizes = λ j. c.close_gate.ensures.sizes j ∙ c.loop-k.invariant.sizes j;
      faults = omega (arith, c.loop-k.invariant.faults, c.close_gate.ensures.cause.later);
    }

pub returns-clause-any_moment : goal.returns-clause-any_moment
returns-clause-any_moment g c =
    let d = g.D.Disk in let old = c.args.disk.now in
    let r = c.args.region.now in let at = c.args.at in let n = c.args.count in let k = c.loop-k.k in
    let p : BlocksOf = (r, at, k, d.image old) in
    c.seen_as.ensures p (r, at, n) old c.sync.new.self
    (c.stays.ensures p old c.loop-k.disk c.sync.new.self c.loop-k.invariant.run c.sync.ensures.time c.sync.ensures.stop)
    (λ x y left so_far. closing r at n (d.image old) x y (c.requires.stable x left) (more_gates r at k n (d.image old) x y (omega (arith, c.loop-k.auto.k-end)) so_far))

pub returns-clause-shown : goal.returns-clause-shown
returns-clause-shown g c = λ tells.
    let d = g.D.Disk in let old = c.args.disk.now in
    let r = c.args.region.now in let at = c.args.at in let n = c.args.count in let k = c.loop-k.k in
    subst (λ y. Closing r at n (d.image old) y) (sym c.sync.ensures.same)
    (closing r at n (d.image old) _ _ (c.requires.stable _ (g.met.D.Disk.image_left old tells)) (more_gates r at k n (d.image old) _ _ (omega (arith, c.loop-k.auto.k-end)) (c.loop-k.invariant.torn tells)))

pub returns-clause-closed : goal.returns-clause-closed
returns-clause-closed g c = on_ok c.sync.result (λ tells k inside.
    let r = c.args.region.now in
    let d = g.D.Disk in
    let q = k - c.args.at in
    let is : c.args.at + q ≡ k = omega (arith, inside.0) in
    let below : q < c.loop-k.k = omega (arith, inside.0, inside.1, c.loop-k-test.false) in
    let shut = subst (λ p. ¬ (gate r p (d.image c.loop-k.disk) ≡ 165)) is (c.loop-k.invariant.closed tells q below) in
    ap (λ y. block r k y) c.sync.ensures.same ∙ block-closed r k (d.image c.loop-k.disk) shut)

pub returns-clause-zeroed : goal.returns-clause-zeroed
returns-clause-zeroed g c = on_ok c.sync.result (λ tells k inside.
    let r = c.args.region.now in
    let d = g.D.Disk in let old = c.args.disk.now in
    let q = k - c.args.at in
    let is : c.args.at + q ≡ k = omega (arith, inside.0) in
    let below : q < c.loop-k.k = omega (arith, inside.0, inside.1, c.loop-k-test.false) in
    ap (λ y. gate r k y) c.sync.ensures.same
    ∙ subst (λ p. gate r p (d.image c.loop-k.disk) ≡ shut (gate r p (d.image old))) is (c.loop-k.invariant.zeroed tells q below))
