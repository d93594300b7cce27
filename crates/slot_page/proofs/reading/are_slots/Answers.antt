use Rattle.std.proofs.Common.{◌≡◌, ℕ, ◌+◌, ◌-◌, drop, take, true, ap, ◌∙◌, arith}
use Rattle.slot_page.specs.Checks.{is_slot, are_slots}
use Rattle.slot_page.proofs.SlotTests.{are_slots_more, room_more}
use Rattle.slot_page.proofs.reading.are_slots.Goals as goal

pub slots-preserved : goal.slots-preserved
slots-preserved c =
    let n = c.args.row_length in
    let rest = c.slots.rest.now in
    let one : is_slot (take (n + 1) rest) ≡ true =
    cc (ap (λ (m : ℕ). is_slot (take (m + 1) rest)) c.from.ensures, ap is_slot c.split_at.ensures.front) in
    let more = are_slots_more n c.args.count c.slots.counter rest _ c.slots-test.true c.slots.invariant.1 one in
    let behind : c.split_at.result.1.now ≡ drop (n + 1) rest = c.split_at.ensures.back ∙ ap (λ (m : ℕ). drop (m + 1) rest) c.from.ensures in (
      room_more n c.args.count c.slots.counter _ _ c.slots-test.true c.slots.invariant.0 (omega (arith, c.split_at.ensures.back_len, c.from.ensures)),
      ap (are_slots n (c.args.count - (c.slots.counter + 1))) behind ∙ more,
    )
