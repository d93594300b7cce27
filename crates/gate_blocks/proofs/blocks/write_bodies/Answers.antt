use Rattle.std.proofs.Common.{◌≡◌, ◌+◌, ◌*◌, [], ◌∙◌, subst, sym, arith, length, get_or, ℕ}
use Rattle.ids_outside.specs.Images.{Torn, Written, Range}
use Rattle.ids_outside.specs.Stops.{Follows}
use Rattle.gate_blocks.specs.Gates.{BodyPlaces, Staged, place, Within}
use Rattle.gate_blocks.proofs.Images.{both}
use Rattle.gate_blocks.proofs.Writes.{staged, body_range, next_body}
use Rattle.gate_blocks.proofs.blocks.write_bodies.Goals as goal

pub returns-in_err-write_at-clause-any_moment : goal.returns-in_err-write_at-clause-any_moment
returns-in_err-write_at-clause-any_moment g c =
    let r = c.args.region.now in
    let d = g.D.Disk in
    let at = c.args.at in let n = length c.args.bodies.now in let k = c.loop-i.i in
    let offset = 2048 * (r.first + at + k) in
    let inside : Within at n (at + k) = (omega arith, omega (arith, c.loop-i-test.true)) in
    let stop = subst (λ len. Follows (Torn r.chunk offset len) (d.can_leave c.loop-i.disk) (d.can_leave c.write_at.new.self)) (c.told-bodies k c.loop-i-test.true) c.write_at.ensures.stop in
    let run = c.torn.ensures (r, at, n) c.args.disk.now c.loop-i.disk c.write_at.new.self r.chunk offset 2047
    c.loop-i.invariant.run c.write_at.ensures.time stop (λ j i h. body_range r at n (at + k) offset j i inside (omega arith) h) in
    c.seen_as.ensures (r, at, n) (r, at, n) c.args.disk.now c.write_at.new.self run (λ x y left same. staged r at n x y (c.requires.closed x left) same)

pub returns-in_err-write_at-clause-shown : goal.returns-in_err-write_at-clause-shown
returns-in_err-write_at-clause-shown g c = λ tells.
    let r = c.args.region.now in
    let at = c.args.at in let n = length c.args.bodies.now in let k = c.loop-i.i in
    let offset = 2048 * (r.first + at + k) in
    let inside : Within at n (at + k) = (omega arith, omega (arith, c.loop-i-test.true)) in
    let cut = subst (λ len. Torn r.chunk offset len (g.D.Disk.image c.loop-i.disk) (g.D.Disk.image c.write_at.new.self)) (c.told-bodies k c.loop-i-test.true) c.write_at.ensures.torn in
    let same = both (BodyPlaces r at n) (Range r.chunk offset 2047) (BodyPlaces r at n) _ _ _ c.loop-i.invariant.torn cut (λ j i h. h)
    (λ j i h. body_range r at n (at + k) offset j i inside (omega arith) h) in
    staged r at n _ _ (c.requires.closed _ (g.met.D.Disk.image_left c.args.disk.now tells)) same

pub loop-i-preserved : goal.loop-i-preserved
loop-i-preserved g c =
    let r = c.args.region.now in
    let d = g.D.Disk in
    let at = c.args.at in let n = length c.args.bodies.now in let k = c.loop-i.i in
    let offset = 2048 * (r.first + at + k) in
    let is : offset ≡ place r (at + k) = omega arith in
    let inside : Within at n (at + k) = (omega arith, omega (arith, c.loop-i-test.true)) in
    let long = c.told-bodies k c.loop-i-test.true in
    let stop = subst (λ len. Follows (Torn r.chunk offset len) (d.can_leave c.loop-i.disk) (d.can_leave c.write_at.new.self)) long c.write_at.ensures.stop in
    let cut = subst (λ len. Torn r.chunk offset len (d.image c.loop-i.disk) (d.image c.write_at.new.self)) long c.write_at.ensures.torn in
    let inward : (j i : ℕ) → Range r.chunk offset 2047 j i → BodyPlaces r at n j i = λ j i h. body_range r at n (at + k) offset j i inside is h in
    let item = get_or c.args.bodies.now k [] in
    record {
      run = c.torn.ensures (r, at, n) c.args.disk.now c.loop-i.disk c.write_at.new.self r.chunk offset 2047
          c.loop-i.invariant.run c.write_at.ensures.time stop inward;
      torn = both (BodyPlaces r at n) (Range r.chunk offset 2047) (BodyPlaces r at n) _ _ _ c.loop-i.invariant.torn cut (λ j i h. h) inward;
      written = λ tells q below. next_body r at c.args.bodies.now k (d.image c.loop-i.disk) (d.image c.write_at.new.self) long (c.loop-i.invariant.written tells)
          (subst (λ o. Written r.chunk o item (d.image c.loop-i.disk) (d.image c.write_at.new.self)) is (c.in_ok-write_at.ensures.written tells)) q (omega (arith, below));
      sizes = λ j. c.write_at.ensures.sizes j ∙ c.loop-i.invariant.sizes j;
      faults = omega (arith, c.loop-i.invariant.faults, c.write_at.ensures.cause.later);
    }

pub returns-clause-any_moment : goal.returns-clause-any_moment
returns-clause-any_moment g c =
    let r = c.args.region.now in let at = c.args.at in let n = length c.args.bodies.now in
    let run = c.stays.ensures (r, at, n) c.args.disk.now c.loop-i.disk c.sync.new.self c.loop-i.invariant.run c.sync.ensures.time c.sync.ensures.stop in
    c.seen_as.ensures (r, at, n) (r, at, n) c.args.disk.now c.sync.new.self run (λ x y left same. staged r at n x y (c.requires.closed x left) same)

pub returns-clause-shown : goal.returns-clause-shown
returns-clause-shown g c = λ tells.
    subst (λ y. Staged c.args.region.now c.args.at (length c.args.bodies.now) (g.D.Disk.image c.args.disk.now) y) (sym c.sync.ensures.same)
    (staged c.args.region.now c.args.at (length c.args.bodies.now) _ _ (c.requires.closed _ (g.met.D.Disk.image_left c.args.disk.now tells)) c.loop-i.invariant.torn)
