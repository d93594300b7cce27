use Rattle.std.proofs.Common.{◌≡◌, ◌≤◌, ◌<◌, ◌+◌, ◌%◌, ◌∙◌, ℕ, length, arith, ap, sym, length-drop}
use Rattle.std.proofs.lemmas.Bool.{eqb-false}
use Rattle.std.proofs.lemmas.List.{length-take-le}
use Rattle.mem_pools.specs.Pooled.{wanted}
use Rattle.mem_pools.proofs.Appending.{IsFilled, starts, filled_now, room_now, goes_on, all_done}
use Rattle.mem_pools.proofs.pool_set.Pools.append.Goals as goal

pub loop-rest-init : goal.loop-rest-init
loop-rest-init c = starts c.args.self.now c.args.pool c.args.bytes.now (record { stands = c.requires.stands; filled = c.wanted-wanted.ensures.filled })

pub len-requires : goal.len-requires
len-requires c = (filled_now c.args.self.now c.loop-rest.self c.args.pool c.args.bytes.now c.loop-rest.rest.now c.loop-rest.invariant (record { stands = c.requires.stands; filled = c.wanted-wanted.ensures.filled }) (omega (arith, c.if-free-wanted.false, c.wanted-wanted.ensures.wanted, c.free-free.ensures.free))).stands

pub put-requires-clause-stands : goal.put-requires-clause-stands
put-requires-clause-stands c = (filled_now c.args.self.now c.loop-rest.self c.args.pool c.args.bytes.now c.loop-rest.rest.now c.loop-rest.invariant (record { stands = c.requires.stands; filled = c.wanted-wanted.ensures.filled }) (omega (arith, c.if-free-wanted.false, c.wanted-wanted.ensures.wanted, c.free-free.ensures.free))).stands

pub put-requires-clause-fits : goal.put-requires-clause-fits
put-requires-clause-fits c =
    let front = ap length c.split_at.ensures.front in
    omega (arith, c.len.ensures, c.min.ensures, front, length-take-le c.min.result c.loop-rest.rest.now (omega (arith, c.min.ensures)))

pub put-requires-clause-some : goal.put-requires-clause-some
put-requires-clause-some c =
    let front = ap length c.split_at.ensures.front in
    let some : length c.loop-rest.rest.now ≡ 0 → ⊥ = eqb-false (length c.loop-rest.rest.now) 0 (sym c.is_empty.ensures ∙ c.loop-rest-test.true) in
    omega (arith, some, c.min.ensures, front, length-take-le c.min.result c.loop-rest.rest.now (omega (arith, c.min.ensures)))

pub put-requires-clause-room : goal.put-requires-clause-room
put-requires-clause-room c =
    let front = ap length c.split_at.ensures.front in
    let part : length c.split_at.result.0.now ≤ length c.loop-rest.rest.now = omega (arith, front, length-take-le c.min.result c.loop-rest.rest.now (omega (arith, c.min.ensures)), c.min.ensures) in
    room_now c.args.self.now c.loop-rest.self c.args.pool (length c.split_at.result.0.now) c.args.bytes.now c.loop-rest.rest.now c.loop-rest.invariant (record { stands = c.requires.stands; filled = c.wanted-wanted.ensures.filled }) (omega (arith, c.if-free-wanted.false, c.wanted-wanted.ensures.wanted, c.free-free.ensures.free)) part

pub loop-rest-smaller : goal.loop-rest-smaller
loop-rest-smaller c =
    let back = ap length c.split_at.ensures.back in
    let some : length c.loop-rest.rest.now ≡ 0 → ⊥ = eqb-false (length c.loop-rest.rest.now) 0 (sym c.is_empty.ensures ∙ c.loop-rest-test.true) in
    omega (arith, some, c.min.ensures, back, length-drop c.min.result c.loop-rest.rest.now)

pub loop-rest-preserved : goal.loop-rest-preserved
loop-rest-preserved c =
    goes_on c.args.self.now c.loop-rest.self c.put.new.self c.args.pool c.min.result c.args.bytes.now c.loop-rest.rest.now c.split_at.result.0.now c.split_at.result.1.now c.loop-rest.invariant (record { stands = c.requires.stands; filled = c.wanted-wanted.ensures.filled }) (omega (arith, c.if-free-wanted.false, c.wanted-wanted.ensures.wanted, c.free-free.ensures.free)) (omega (arith, c.min.ensures)) c.split_at.ensures.front c.split_at.ensures.back c.put.ensures
