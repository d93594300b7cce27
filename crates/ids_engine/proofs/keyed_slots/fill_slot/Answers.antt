-- The answers: a slot is filled.
use Rattle.std.proofs.Common.{ap, ℕ}
use Rattle.ids_engine.proofs.KeyedSlots.{fill-alone, fill-moves, fill-directs}
use Rattle.ids_engine.proofs.keyed_slots.fill_slot.Goals as goal

pub note-requires-clause-alone : goal.note-requires-clause-alone
note-requires-clause-alone c =
    fill-alone c.args.pages.now c.args.space.now c.args.owner c.args.row.page c.args.row.slot c.args.tx c.args.bytes.now c.owner.inside.table c.key_in-key.result
    (ap (λ (x : ℕ × ℕ). x.0) c.owner.view_is) c.key_in-key.ensures c.requires.place

pub returns-clause-directs : goal.returns-clause-directs
returns-clause-directs c =
    fill-directs c.args.pages.now c.args.space.now c.args.owner c.args.row.page c.args.row.slot c.args.tx c.args.bytes.now c.owner.inside.table c.key_in-key.result
    (ap (λ (x : ℕ × ℕ). x.0) c.owner.view_is) c.key_in-key.ensures c.requires.place
    c.note.new.self c.note.ensures.noted c.note.ensures.owned c.note.ensures.tables c.put.new.self c.put.ensures.own c.put.ensures.slots c.count.ensures.paged c.requires.directs

pub returns-clause-moves : goal.returns-clause-moves
returns-clause-moves c =
    fill-moves c.args.pages.now c.args.space.now c.args.owner c.args.row.page c.args.row.slot c.args.tx c.args.bytes.now c.owner.inside.table c.key_in-key.result
    (ap (λ (x : ℕ × ℕ). x.0) c.owner.view_is) c.key_in-key.ensures c.requires.place
    c.note.new.self c.note.ensures.noted c.note.ensures.owned c.note.ensures.tables
