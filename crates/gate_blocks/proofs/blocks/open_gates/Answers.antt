use Rattle.std.proofs.Common.{◌≡◌, ◌+◌, ◌-◌, ◌*◌, ◌<◌, ℕ, [], ◌∷◌, ◌∙◌, subst, sym, ap, arith}
use Rattle.ids_outside.specs.Images.{Written, Range}
use Rattle.gate_blocks.specs.Gates.{GatePlaces, Opening, place, Within, block, gate}
use Rattle.gate_blocks.proofs.Images.{both}
use Rattle.gate_blocks.proofs.OneBlock.{on_ok}
use Rattle.gate_blocks.proofs.Writes.{opening, gate_range, next_gate, opened}
use Rattle.gate_blocks.proofs.blocks.open_gates.Goals as goal

pub returns-in_err-write_at-clause-any_moment : goal.returns-in_err-write_at-clause-any_moment
returns-in_err-write_at-clause-any_moment g c =
    let r = c.args.region.now in
    let at = c.args.at in let n = c.args.count in let k = c.loop-k.k in
    let offset = 2048 * (r.first + at + k) + 2047 in
    let inside : Within at n (at + k) = (omega arith, omega (arith, c.loop-k-test.true)) in
    let run = c.torn.ensures (r, at, n) c.args.disk.now c.loop-k.disk c.write_at.new.self r.chunk offset 1
    c.loop-k.invariant.run c.write_at.ensures.time c.write_at.ensures.stop (λ j i h. gate_range r at n (at + k) offset j i inside (omega arith) h) in
    c.seen_as.ensures (r, at, n) (r, at, n) c.args.disk.now c.write_at.new.self run (λ x y left same. opening r at n x y same)

pub returns-in_err-write_at-clause-shown : goal.returns-in_err-write_at-clause-shown
returns-in_err-write_at-clause-shown g c =
    let r = c.args.region.now in
    let at = c.args.at in let n = c.args.count in let k = c.loop-k.k in
    let offset = 2048 * (r.first + at + k) + 2047 in
    let inside : Within at n (at + k) = (omega arith, omega (arith, c.loop-k-test.true)) in
    opening r at n _ _ (both (GatePlaces r at n) (Range r.chunk offset 1) (GatePlaces r at n) _ _ _ c.loop-k.invariant.torn c.write_at.ensures.torn (λ j i h. h)
    (λ j i h. gate_range r at n (at + k) offset j i inside (omega arith) h))

pub loop-k-preserved : goal.loop-k-preserved
loop-k-preserved g c =
    let r = c.args.region.now in
    let d = g.D.Disk in
    let at = c.args.at in let n = c.args.count in let k = c.loop-k.k in
    let offset = 2048 * (r.first + at + k) + 2047 in
    let is : offset ≡ place r (at + k) + 2047 = omega arith in
    let inside : Within at n (at + k) = (omega arith, omega (arith, c.loop-k-test.true)) in
    let inward : (j i : ℕ) → Range r.chunk offset 1 j i → GatePlaces r at n j i = λ j i h. gate_range r at n (at + k) offset j i inside is h in
    record {
      run = c.torn.ensures (r, at, n) c.args.disk.now c.loop-k.disk c.write_at.new.self r.chunk offset 1
          c.loop-k.invariant.run c.write_at.ensures.time c.write_at.ensures.stop inward;
      torn = both (GatePlaces r at n) (Range r.chunk offset 1) (GatePlaces r at n) _ _ _ c.loop-k.invariant.torn c.write_at.ensures.torn (λ j i h. h) inward;
      written = λ tells q below. next_gate r at k (d.image c.loop-k.disk) (d.image c.write_at.new.self) (c.loop-k.invariant.written tells)
          (subst (λ o. Written r.chunk o (165 ∷ []) (d.image c.loop-k.disk) (d.image c.write_at.new.self)) is (c.in_ok-write_at.ensures.written tells)) q (omega (arith, below));
      sizes = λ j. c.write_at.ensures.sizes j ∙ c.loop-k.invariant.sizes j;
      faults = omega (arith, c.loop-k.invariant.faults, c.write_at.ensures.cause.later);
    }

pub returns-clause-any_moment : goal.returns-clause-any_moment
returns-clause-any_moment g c =
    let r = c.args.region.now in let at = c.args.at in let n = c.args.count in
    let run = c.stays.ensures (r, at, n) c.args.disk.now c.loop-k.disk c.sync.new.self c.loop-k.invariant.run c.sync.ensures.time c.sync.ensures.stop in
    c.seen_as.ensures (r, at, n) (r, at, n) c.args.disk.now c.sync.new.self run (λ x y left same. opening r at n x y same)

pub returns-clause-shown : goal.returns-clause-shown
returns-clause-shown g c =
    subst (λ y. Opening c.args.region.now c.args.at c.args.count (g.D.Disk.image c.args.disk.now) y) (sym c.sync.ensures.same)
    (opening c.args.region.now c.args.at c.args.count _ _ c.loop-k.invariant.torn)

pub returns-clause-opened : goal.returns-clause-opened
returns-clause-opened g c = on_ok c.sync.result (λ tells k inside.
    let r = c.args.region.now in
    let d = g.D.Disk in
    let q = k - c.args.at in
    let is : c.args.at + q ≡ k = omega (arith, inside.0) in
    let below : q < c.loop-k.k = omega (arith, inside.0, inside.1, c.loop-k-test.false) in
    let open_gate : gate r k (d.image c.loop-k.disk) ≡ 165 = subst (λ p. gate r p (d.image c.loop-k.disk) ≡ 165) is (c.loop-k.invariant.written tells q below) in
    ap (λ y. block r k y) c.sync.ensures.same ∙ opened r c.args.at c.args.count k _ _ c.loop-k.invariant.torn open_gate)
