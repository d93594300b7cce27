use Rattle.std.proofs.Common.{◌≡◌, ◌≤◌, ◌+◌, ◌-◌, ◌*◌, length}
use Rattle.slot_page.specs.Checks.{are_slots}
use Rattle.slot_page.proofs.reading.are_slots.Given as goal

-- the slots that are left fit, and their test is that of all
abbrev pub invariant-slots : goal.invariant-slots
invariant-slots l =
    ((l.count - l.counter) * (l.row_length + 1) ≤ length l.rest) × (are_slots l.row_length (l.count - l.counter) l.rest ≡ are_slots l.row_length l.count l.bytes)
