use Rattle.std.proofs.Common.{◌≡◌, ◌<◌, ◌≤◌, ◌+◌, length, ap, sym, subst, arith}
use Rattle.log_records.specs.Bodies.{Body, entries_size}
use Rattle.log_buffer.specs.Buffers.{Buffer}
use Rattle.log_buffer.proofs.Begun.{length_begun, held_begin}
use Rattle.log_buffer.proofs.buffer.LogBuffer.begin.Goals as goal

pub invariant_of-self : goal.invariant_of-self
invariant_of-self c =
    let v = c.self.inside in let new = c.body_with.result in
    let room = subst (λ (b : Buffer). length b.blocks < b.room) (sym c.self.view_is) c.requires.room in
    let below : v.begun < length v.bodies.items = omega (arith, room, length_begun v.begun v.bodies.items c.self.invariant.few) in
    let number : new.number ≡ v.first + v.begun = ap (λ (b : Body). b.number) c.body_with.ensures.body in
    let some : 1 ≤ length new.entries = omega (arith, ap (λ (b : Body). length b.entries) c.body_with.ensures.body) in
    let within : entries_size new.entries ≤ 2004 = omega (arith, ap (λ (b : Body). entries_size b.entries) c.body_with.ensures.body, c.body_with.ensures.within) in
    held_begin v.bodies.items v.begun v.first new c.self.invariant below number some within
